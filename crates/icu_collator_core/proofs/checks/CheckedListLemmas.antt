-- What stands at indices of lists, and tests of all of a part.
use Rattle.std.proofs.Common.{◌≡◌, ℕ, suc, ◌+◌, ◌-◌, ◌<◌, ◌≤◌, Bool, true, ◌&&◌, List, ◌∷◌, length, take, drop, get_or, slice_get, Option, Some, None, ap, ◌∙◌, sym, arith, ⊎_elim}
use Rattle.std.specs.List.{list_all, slice_index}
use Rattle.std.specs.Option.{unwrap_or}
use Rattle.std.proofs.Math.ListN.{drop_of_length-le}
use Rattle.std.proofs.Math.Seq.{take-nil}
use Rattle.std.proofs.lemmas.List.{drop_more, get_or_past}
use Rattle.std.proofs.lemmas.Option.{none-some, slice_get_within, slice_get_cases, get_or_from_slice_get}
use Rattle.icu_normalizer_core.specs.CanonicalWords.{items_at}

past : (list : List ℕ) (index : ℕ) → slice_get list index ≡ None → length list ≤ index
past list index none =
    ⊎_elim
    (λ (w : (x : ℕ) × (index < length list) × (slice_get list index ≡ Some x) × (get_or list index x ≡ x)). absurd (none-some w.0 (sym none ∙ w.2)))
    (λ (w : (length list ≤ index) × (slice_get list index ≡ None)). w.0)
    (slice_get_cases list index).1

-- past the end of a list stands 0
pub none_index : (list : List ℕ) (index : ℕ) → slice_get list index ≡ None → 0 ≡ slice_index list index
none_index list index none = sym (get_or_past list index 0 (past list index none))

-- a value that an option has
pub word_same : (word : ℕ) (found : Option ℕ) → Some word ≡ found → word ≡ unwrap_or found 0
word_same word found e = ap (λ o. unwrap_or o 0) e

module _ (passes : ℕ → Bool) (list : List ℕ) where
  -- all of a part pass where its first does and the rest
  pub all_more : (i n word : ℕ) → slice_get list i ≡ Some word → i < n
      → list_all passes (items_at list i (n - i)) ≡ (passes word && list_all passes (items_at list (i + 1) (n - (i + 1))))
  all_more i n word found less =
      let first : drop i list ≡ word ∷ drop (i + 1) list =
      drop_more list i word (slice_get_within list i word found)
      ∙ ap (λ (x : ℕ). x ∷ drop (i + 1) list) (get_or_from_slice_get list i word word found) in
      let count : n - i ≡ suc (n - (i + 1)) = omega (arith, less) in
      ap (λ xs. list_all passes (take (n - i) xs)) first
      ∙ ap (λ k. list_all passes (take k (word ∷ drop (i + 1) list))) count

  -- nothing stands past the end
  pub all_past : (i n : ℕ) → slice_get list i ≡ None → list_all passes (items_at list i n) ≡ true
  all_past i n none =
      ap (λ xs. list_all passes (take n xs)) (drop_of_length-le list (past list i none))
      ∙ ap (λ xs. list_all passes xs) (take-nil {A = ℕ} n)

  -- a part of none
  pub all_none : (i n : ℕ) → n ≤ i → list_all passes (items_at list i (n - i)) ≡ true
  all_none i n more =
      let count : n - i ≡ 0 = omega (arith, more) in
      ap (λ k. list_all passes (take k (drop i list))) count
