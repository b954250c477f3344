-- a listing, one name after another
use Rattle.std.proofs.Common.{◌≡◌, ℕ, ◌+◌, ◌<◌, ◌≤◌, ◌-◌, codes, decimal, List, [], ◌∷◌, ◌++◌, length, get_or, slice_range, slice_get, Some, None, flat_map, sym, ap, ◌∙◌, append_assoc}
use Rattle.std.proofs.lemmas.Option.{slice_get_within, get_or_from_slice_get, slice_get-get_or}
use Rattle.std.proofs.lemmas.List.{flat_map_more}
use Rattle.std.proofs.lemmas.List.Edits.{between_more, length-between}
use Rattle.collate_run.specs.Replies.{ended, listing}

-- a range with an element more
pub slice_range-more : (xs : List (List ℕ)) (from place : ℕ) (x : List ℕ) → from ≤ place → slice_get xs place ≡ Some x → slice_range xs from (place + 1) ≡ slice_range xs from place ++ x ∷ []
slice_range-more xs from place x within is =
    let inside : place < length xs = slice_get_within xs place x is in
    let value : get_or xs place [] ≡ x = get_or_from_slice_get xs place x [] is in
    between_more xs from place [] within inside ∙ ap (λ (y : List ℕ). slice_range xs from place ++ y ∷ []) value

-- a listing with a name more
pub listing-more : (front : List ℕ) (xs : List (List ℕ)) (from place : ℕ) (x text : List ℕ) → from ≤ place → slice_get xs place ≡ Some x →
    text ≡ front ++ flat_map ended (slice_range xs from place) → (text ++ x) ++ 10 ∷ [] ≡ front ++ flat_map ended (slice_range xs from (place + 1))
listing-more front xs from place x text within is e =
    append_assoc text x (10 ∷ []) ∙ ap (λ (y : List ℕ). y ++ ended x) e ∙ flat_map_more ended front (slice_range xs from place) x ∙ ap (λ (ys : List (List ℕ)). front ++ flat_map ended ys) (sym (slice_range-more xs from place x within is))

-- each place below the length has an element
pub slice_get-some : (xs : List (List ℕ)) (place : ℕ) → place < length xs → slice_get xs place ≡ None → ⊥
slice_get-some xs place within is = let e = slice_get-get_or xs place [] within in cc

-- a listing that has come to its end
pub listing-done : (xs : List (List ℕ)) (from to place : ℕ) (text : List ℕ) → to ≤ length xs → place ≡ to →
    text ≡ codes "names " ++ decimal (to - from) ++ 10 ∷ [] ++ flat_map ended (slice_range xs from place) → text ≡ listing (slice_range xs from to)
listing-done xs from to place text within at e =
    e ∙ ap (λ (p : ℕ). codes "names " ++ decimal (to - from) ++ 10 ∷ [] ++ flat_map ended (slice_range xs from p)) at
    ∙ ap (λ (n : ℕ). codes "names " ++ decimal n ++ 10 ∷ [] ++ flat_map ended (slice_range xs from to)) (sym (length-between xs from to within))
