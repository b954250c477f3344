-- A list of characters, each once, and the set of these, after one more.
use Rattle.std.proofs.Common.{◌≡◌, ℕ, Bool, true, false, cond, ◌||◌, List, [], ◌∷◌, ◌++◌, refl, sym, ap, ◌∙◌, arith}
use Rattle.std.specs.Prelude.{nat_eq}
use Rattle.std.specs.BTreeSet.{BTreeSet, contains}
use Rattle.std.specs.Ordering.{eq_by_cmp, nat_cmp}
use Rattle.std.specs.Set.{is_member}
use Rattle.std.proofs.lemmas.Bool.Decides.{nat_tests}
use Rattle.std.proofs.lemmas.Cmp.{nat_eq_equiv}
use Rattle.std.proofs.lemmas.List.Folds.{list_any-append}
use Rattle.std.proofs.lemmas.Map.Steps.{list_any_congr}
use Rattle.icu_normalizer_core.specs.Named.{HasThese, with_new}

tests_turned : (c q : ℕ) → eq_by_cmp nat_cmp c q ≡ nat_eq q c
tests_turned c q = grind (arith, nat_tests)

chosen : (b m : Bool) → cond b true m ≡ (m || (b || false))
chosen true true = refl
chosen true false = refl
chosen false true = refl
chosen false false = refl

module _ (named : List ℕ) (c : ℕ) (old new : BTreeSet ℕ) (has : HasThese old named)
    (moved : (q : ℕ) → contains nat_cmp new q ≡ cond (eq_by_cmp nat_cmp c q) true (contains nat_cmp old q)) where
  now : (q : ℕ) → contains nat_cmp new q ≡ cond (nat_eq q c) true (is_member nat_eq named q)
  now q = moved q ∙ ap (λ (b : Bool). cond b true (contains nat_cmp old q)) (tests_turned c q) ∙ ap (λ (b : Bool). cond (nat_eq q c) true b) (has q)

  -- a character that was there
  pub these_still : contains nat_cmp old c ≡ true → HasThese new named
  these_still there q = now q ∙ by (nat_eq q c) refl
    where
      by : (b : Bool) → nat_eq q c ≡ b → cond b true (is_member nat_eq named q) ≡ is_member nat_eq named q
      by true t = sym (list_any_congr nat_eq_equiv q c named t ∙ sym (has c) ∙ there)
      by false t = refl

  -- a new one
  pub these_more : HasThese new (named ++ c ∷ [])
  these_more q = now q ∙ chosen (nat_eq q c) (is_member nat_eq named q) ∙ sym (list_any-append (nat_eq q) named (c ∷ []))

-- where it was there nothing is new
pub nothing_new : (named : List ℕ) (c : ℕ) (old : BTreeSet ℕ) → HasThese old named → contains nat_cmp old c ≡ true → named ≡ with_new named c
nothing_new named c old has there = sym (ap (λ (b : Bool). cond b named (named ++ c ∷ [])) (sym (has c) ∙ there))

pub one_new : (named : List ℕ) (c : ℕ) (old : BTreeSet ℕ) → HasThese old named → contains nat_cmp old c ≡ false → named ++ c ∷ [] ≡ with_new named c
one_new named c old has absent = sym (ap (λ (b : Bool). cond b named (named ++ c ∷ [])) (sym (has c) ∙ absent))
