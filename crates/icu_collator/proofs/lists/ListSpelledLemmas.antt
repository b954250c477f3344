-- Iterators that are seen as what is left of their characters.
use Rattle.std.proofs.Common.{◌≡◌, ◌∙◌, ℕ, List, [], ◌∷◌, Option, None, Some, ap, subst, sym}
use Rattle.std.specs.Iterator.{YieldsFirst}
use Rattle.icu_normalizer_core.specs.Iter.{Spells}

same_head : (x y : ℕ) (xs ys : List ℕ) → x ∷ xs ≡ y ∷ ys → y ≡ x
same_head x y xs ys e = cc

same_tail : (x y : ℕ) (xs ys : List ℕ) → x ∷ xs ≡ y ∷ ys → xs ≡ ys
same_tail x y xs ys e = cc

no_more : {X : Type 0} (y : ℕ) (ys : List ℕ) → [] ≡ y ∷ ys → X
no_more y ys e = cc

none_yet : {X : Type 0} (y : ℕ) (ys : List ℕ) → y ∷ ys ≡ [] → X
none_yet y ys e = cc

-- it spells them
pub spells_left : (cs : List ℕ) → Spells (YieldsFirst {S = List ℕ} {A = ℕ} (λ rest. rest)) cs cs
spells_left [] = λ x j step. no_more x j step
spells_left (c ∷ cs) = (
  λ j step. none_yet c cs step.0,
  λ x j step. (same_head c x cs j step, subst (λ ys. Spells (YieldsFirst {S = List ℕ} {A = ℕ} (λ rest. rest)) ys cs) (same_tail c x cs j step) (spells_left cs)),
)

pub spells_same : (cs text : List ℕ) → cs ≡ text → Spells (YieldsFirst {S = List ℕ} {A = ℕ} (λ rest. rest)) cs text
spells_same cs text e = subst (λ ys. Spells (YieldsFirst {S = List ℕ} {A = ℕ} (λ rest. rest)) cs ys) e (spells_left cs)

-- what comes next is the first of what is left
pub first_next : (left more : List ℕ) (c : ℕ) (next : Option ℕ) (rest : List ℕ) → left ≡ c ∷ more
    → YieldsFirst {S = List ℕ} {A = ℕ} (λ ys. ys) left next rest → next ≡ Some c
first_next left more c None rest is step = none_yet c more (sym is ∙ step.0)
first_next left more c (Some d) rest is step = ap Some (same_head c d more rest (sym is ∙ step))
