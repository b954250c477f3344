-- What is found in the lines of a table.
use Rattle.std.proofs.Common.{◌≡◌, ℕ, ◌<◌, true, cond, leb, List, [], ◌∷◌, length, refl, subst, ◌==◌, ◌&&◌, Option, Some, None, arith}
use Rattle.std.proofs.lemmas.Bool.{cond_both, and_parts, eqb-true, leb-true}
use Rattle.std.proofs.lemmas.List.Elements.{Contains-append_left, Contains-append_right}
use Rattle.std.specs.List.{AllByRecursion, Contains, flat_map, list_all}
use Rattle.icu_collator_types.specs.declared.elements.Element.{Element}
use Rattle.examples_icu_collator.specs.Tables.{Recorded, first_found, is_same_text, recorded_of}

-- what is true of each line and its character, and of a character with none, is true of what is found for a character
pub by_character : {A : Type 0} {B : Type 0} (character : A → ℕ) (said : A → B) (P : ℕ → Option B → Type 0) (lines : List A) (c : ℕ)
    → AllByRecursion (λ line. P (character line) (Some (said line))) lines → P c None
    → P c (first_found (λ line. cond (character line == c) (Some (said line)) None) lines)
by_character character said P [] c h none = none
by_character {A} {B} character said P (line ∷ lines) c h none =
    let later : Option B = first_found (λ (l : A). cond (character l == c) (Some (said l)) None) lines
    in cond_both (character line == c) (Some (said line)) None (λ (o : Option B). P c (elim o as (λ _. Option B) [ Some y ↦ Some y | None ↦ later ]))
    (λ t. subst (λ (x : ℕ). P x (Some (said line))) (eqb-true (character line) c t) h.0)
    (λ _. by_character character said P lines c h.1 none)

-- the elements of all records
abbrev pub elements_of : List Recorded → List Element
elements_of records = flat_map (λ r. r.elements) records

-- what is recorded for a text is among those
pub found_elements : (records : List Recorded) (before text : List ℕ) (es : List Element) (e : Element)
    → recorded_of records before text ≡ Some es → Contains es e → Contains (elements_of records) e
unfolding recorded_of
found_elements [] before text es e h k = cc
found_elements (r ∷ rs) before text es e h k =
    let later = recorded_of rs before text
    in cond_both (is_same_text r.prefix before && is_same_text r.text text) (Some r.elements) None
    (λ (o : Option (List Element)). elim o as (λ _. Option (List Element)) [ Some y ↦ Some y | None ↦ later ] ≡ Some es → Contains (elements_of (r ∷ rs)) e)
    (λ _ is.
    let same : es ≡ r.elements = cc
    in Contains-append_left r.elements (elements_of rs) e (subst (λ (xs : List Element). Contains xs e) same k))
    (λ _ is. Contains-append_right r.elements (elements_of rs) e (found_elements rs before text es e is k))
    h

same_length : (a b : List ℕ) → is_same_text a b ≡ true → length a ≡ length b
same_length [] [] h = refl
same_length [] (d ∷ ds) h = cc
same_length (c ∷ cs) [] h = cc
same_length (c ∷ cs) (d ∷ ds) h = let rest : length cs ≡ length ds = same_length cs ds (and_parts (c == d) (is_same_text cs ds) h).1 in omega arith

-- a text longer than each that is recorded isn't
pub longer_unrecorded : (records : List Recorded) (before text : List ℕ) → list_all (λ r. leb (length r.text) 1) records ≡ true → 1 < length text
    → recorded_of records before text ≡ None
unfolding recorded_of
longer_unrecorded [] before text h l = refl
longer_unrecorded (r ∷ rs) before text h l =
    let later = recorded_of rs before text
    in let short = leb-true (length r.text) 1 (and_parts _ _ h).0
    in cond_both (is_same_text r.prefix before && is_same_text r.text text) (Some r.elements) None
    (λ (o : Option (List Element)). elim o as (λ _. Option (List Element)) [ Some y ↦ Some y | None ↦ later ] ≡ None)
    (λ t. let same : length r.text ≡ length text = same_length r.text text (and_parts (is_same_text r.prefix before) (is_same_text r.text text) t).1 in absurd (omega arith))
    (λ _. longer_unrecorded rs before text (and_parts _ _ h).1 l)
