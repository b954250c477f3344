-- The first nine items of a list, gathered one after another.
use Rattle.std.proofs.Common.{◌≡◌, ℕ, ◌+◌, ◌<◌, ◌≤◌, ⊎_elim, List, [], ◌∷◌, ◌++◌, length, take, drop, slice_index, slice_get, Some, None, sym, ap, ◌∙◌, append_assoc, arith}
use Rattle.std.proofs.lemmas.List.{take_all, get_or-drop, length-drop}
use Rattle.std.proofs.lemmas.Option.{none-some, get_or_from_slice_get, slice_get_cases}
use Rattle.icu_normalizer_core.specs.declared.canonical.check.left.Left.{Left}
use Rattle.icu_normalizer_core.specs.CanonicalWords.{items_at}
use Rattle.icu_normalizer_core.specs.Settled.{left_items}
use Rattle.icu_normalizer_core.proofs.settling.SettledLemmas.{cut_begun, cut_front, cut_more}

-- one more of the items from an index on
pub start_more : (items : List ℕ) (index i x : ℕ) (old new : List ℕ) → old ≡ take 9 (items_at items index i) → slice_get items (index + i) ≡ Some x
    → new ≡ take 9 (old ++ x ∷ []) → new ≡ take 9 (items_at items index (i + 1))
start_more items index i x old new is e more =
    let inside : index + i < length items = ⊎_elim (λ w. w.1) (λ w. absurd (none-some x (sym w.1 ∙ e))) (slice_get_cases items (index + i)).1 in
    let size = length-drop index items in
    let h : i < length (drop index items) = omega arith in
    let item : slice_index (drop index items) i ≡ x = get_or-drop index items i 0 ∙ get_or_from_slice_get items (index + i) x 0 e in
    cut_more [] (drop index items) old new i h is (more ∙ ap (λ (n : ℕ). take 9 (old ++ n ∷ [])) (sym item))

-- or none is there
pub start_past : (items : List ℕ) (index i : ℕ) (old : List ℕ) → old ≡ take 9 (items_at items index i) → slice_get items (index + i) ≡ None
    → old ≡ take 9 (items_at items index (i + 1))
start_past items index i old is e =
    let past : length items ≤ index + i = ⊎_elim (λ w. absurd (none-some w.0 (sym e ∙ w.2))) (λ w. w.0) (slice_get_cases items (index + i)).1 in
    let size = length-drop index items in
    is ∙ ap (take 9) (take_all i (drop index items) (omega arith) ∙ sym (take_all (i + 1) (drop index items) (omega arith)))

-- one more of a list that is read from the front
pub gathered_more : (left new : Left) (c : ℕ) (before rest list : List ℕ) → take 9 (left_items left ++ before) ≡ take 9 list → before ≡ c ∷ rest
    → left_items new ≡ take 9 (left_items left ++ c ∷ []) → take 9 (left_items new ++ rest) ≡ take 9 list
gathered_more left new c before rest list is first more =
    ap (λ (t : List ℕ). take 9 (t ++ rest)) more
    ∙ cut_front 9 9 (left_items left ++ c ∷ []) rest (omega arith)
    ∙ ap (take 9) (append_assoc (left_items left) (c ∷ []) rest)
    ∙ ap (λ (t : List ℕ). take 9 (left_items left ++ t)) (sym first)
    ∙ is

pub gathered_all : (left : Left) (rest list : List ℕ) → take 9 (left_items left ++ rest) ≡ take 9 list → rest ≡ [] → left_items left ≡ take 9 list
gathered_all left rest list is none =
    cut_begun left.count left.characters left.fits ∙ ap (λ (t : List ℕ). take 9 (left_items left ++ t)) (sym none) ∙ is
