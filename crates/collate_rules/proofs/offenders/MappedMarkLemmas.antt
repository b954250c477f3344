-- A character that isn't built in has a mapping and a class other than 0.
use Rattle.std.proofs.Common.{refl, ◌≡◌, ◌≢◌, ℕ, List, [], ◌∷◌, ◌++◌, sym, ◌∙◌, subst, map, ap, Option, Bool, true, false, ⊎_elim, ◌⊎◌, ◌↔◌, ◌||◌, ◌&&◌}
use Rattle.std.proofs.lemmas.Bool.{false≢true}
use Rattle.std.specs.Bool.{IsTrue}
use Rattle.std.specs.Option.{unwrap_or, is_some}
use Rattle.std.proofs.lemmas.Bool.Decides.{eqb_tells}
use Rattle.icu_normalizer_core.specs.BuiltIn.{built_in_class, is_built_in}
use Rattle.collate_rules.specs.declared.canonical_part.CanonicalPart.{CanonicalPart}
use Rattle.collate_lines.specs.Record.{Record}
use Rattle.collate_rules.specs.Rules.{MapsMark, IsMappedMark}
use Rattle.collate_rules.specs.CanonicalParts.{in_full, SaysSame, subject_of}
use Rattle.collate_rules.proofs.mappings.CanonicalPartLemmas.{class_of-same, first_found-other_class, first_found-other_mapping, first_found-other_compatibility, stated_push}

-- a character is a mapped mark by its class and by what lines say of its mappings
abbrev IsMarkBy : ℕ → ℕ → Option (List ℕ) → Option (List ℕ) → Type 0
IsMarkBy c class mapping other =
    IsTrue (is_some mapping || is_some other) × (is_built_in c ≡ false) × ((class ≢ 0) ⊎ IsTrue (is_some mapping && is_some other))

marked_along : (c k l : ℕ) (m n o p : Option (List ℕ)) → m ≡ n → o ≡ p → k ≡ l → IsMarkBy c k m o → IsMarkBy c l n p
marked_along c k l m n o p e f g marked =
    subst (λ (x : ℕ). IsMarkBy c x n p) g (subst (λ (x : Option (List ℕ)). IsMarkBy c k n x) f (subst (λ (x : Option (List ℕ)). IsMarkBy c k x o) e marked))

pub MapsMark-same : (parts lines : List Record) → SaysSame parts lines → MapsMark parts → MapsMark lines
MapsMark-same parts lines same maps =
    let c = maps.0 in
    (c, marked_along c _ _ _ _ _ _ (same.mappings c) (same.compatibilities c) (class_of-same parts lines c same) maps.1)

-- where one part more makes a mapped mark, it is the part's character
pub mark_of_part : (parts : List Record) (part : CanonicalPart) → (MapsMark parts → ⊥)
    → MapsMark (parts ++ in_full part ∷ []) → IsMappedMark (parts ++ in_full part ∷ []) (subject_of part)
mark_of_part parts part unbroken maps =
    let c = maps.0 in
    ⊎_elim
    (λ w. let P : ℕ → Type 0 = λ d. IsMappedMark (parts ++ in_full part ∷ []) d in
    subst P w.1 maps.1)
    (λ w. absurd (unbroken (
      c,
      marked_along c _ _ _ _ _ _ (first_found-other_mapping parts part c w.1) (first_found-other_compatibility parts part c w.1)
          (ap (λ (o : Option ℕ). unwrap_or (built_in_class c) (unwrap_or o 0)) (first_found-other_class parts part c w.1)) maps.1,
    )))
    (eqb_tells c (subject_of part))

pub MapsMark-none : MapsMark [] → ⊥
MapsMark-none maps = let e = maps.1.0 in cc

-- where the part's character isn't a mapped mark, there is none
pub unmarked : (parts after : List CanonicalPart) (part : CanonicalPart) (c : ℕ) (b : Bool) → after ≡ parts ++ part ∷ [] → c ≡ subject_of part
    → (IsMappedMark (map in_full after) c → IsTrue b) → b ≡ false
    → (MapsMark (map in_full parts) → ⊥) → MapsMark (map in_full after) → ⊥
unmarked parts after part c b e at holds is_false unbroken maps =
    let whole = stated_push parts after part e in
    let P : List Record → Type 0 = λ s. IsMappedMark s (subject_of part) in
    let Q : ℕ → Type 0 = λ d. IsMappedMark (map in_full after) d in
    let t : b ≡ true = holds (subst Q (sym at) (subst P (sym whole) (mark_of_part (map in_full parts) part unbroken (subst MapsMark whole maps)))) in
    false≢true (sym is_false ∙ t)

-- where the parts before the last map no mark, all of them map one exactly if the last part's character is one
pub mark_tells : (before after : List CanonicalPart) (part : CanonicalPart) (c : ℕ) (b : Bool) → after ≡ before ++ part ∷ [] → c ≡ subject_of part
    → (IsTrue b ↔ IsMappedMark (map in_full after) c) → (MapsMark (map in_full before) → ⊥) → IsTrue b ↔ MapsMark (map in_full after)
mark_tells before after part c true e at tells unbroken = (λ t. (c, tells.0 t), λ maps. refl)
mark_tells before after part c false e at tells unbroken =
    (λ t. (c, tells.0 t), λ maps. absurd (unmarked before after part c false e at tells.1 refl unbroken maps))
