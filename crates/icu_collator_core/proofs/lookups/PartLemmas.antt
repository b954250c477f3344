-- A part of a list, with one item more.
use Rattle.std.proofs.Common.{◌≡◌, ℕ, ◌+◌, ◌<◌, ◌≤◌, ◌⊎◌, inl, inr, List, [], ◌∷◌, ◌++◌, length, drop, refl, sym, ◌∙◌, ap, arith, append-nil, append_assoc}
use Rattle.std.proofs.lemmas.Bool.{cases_lt}
use Rattle.std.proofs.lemmas.List.{get_or-drop, length-drop, map-append, take_all, take_more}
use Rattle.std.proofs.lemmas.List.Elements.{filter_map-append}
use Rattle.std.proofs.lemmas.Option.{slice_get-get_or, slice_get_past}
use Rattle.std.specs.Prelude.{filter_map, map, slice_get, Option, Some, None, option_map}
use Rattle.std.specs.List.{cons_option}
use Rattle.std.specs.Option.{option_and_then, option_to_list}
use Rattle.icu_normalizer_core.specs.CanonicalWords.{items_at}

pub part_more : (xs : List ℕ) (index i : ℕ) → items_at xs index (i + 1) ≡ items_at xs index i ++ option_to_list (slice_get xs (index + i))
part_more xs index i = by_index (cases_lt (index + i) (length xs))
  where
    by_index : (index + i < length xs) ⊎ (length xs ≤ index + i)
        → items_at xs index (i + 1) ≡ items_at xs index i ++ option_to_list (slice_get xs (index + i))
    by_index (inl lt) =
        let inside : i < length (drop index xs) = let count = length-drop index xs in omega (arith, count, lt)
        in take_more (drop index xs) i 0 inside
        ∙ ap (λ x. items_at xs index i ++ x ∷ []) (get_or-drop index xs i 0)
        ∙ ap (λ o. items_at xs index i ++ option_to_list o) (sym (slice_get-get_or xs (index + i) 0 lt))
    by_index (inr ge) =
        let few : length (drop index xs) ≤ i = let count = length-drop index xs in omega (arith, count, ge)
        in take_all (i + 1) (drop index xs) (omega (arith, few))
        ∙ sym (take_all i (drop index xs) few)
        ∙ sym (append-nil (items_at xs index i))
        ∙ ap (λ o. items_at xs index i ++ option_to_list o) (sym (slice_get_past xs (index + i) ge))

module _ {A : Type 0} where
  filtered_one : (f : ℕ → Option A) (o : Option ℕ) → filter_map f (option_to_list o) ≡ option_to_list (option_and_then f o)
  filtered_one f None = refl
  filtered_one f (Some x) = elim (f x) as (λ r. cons_option r [] ≡ option_to_list r) [ Some y ↦ refl | None ↦ refl ]

  mapped_one : (f : ℕ → A) (o : Option ℕ) → map f (option_to_list o) ≡ option_to_list (option_map f o)
  mapped_one f None = refl
  mapped_one f (Some x) = refl

  pub filtered_more : (f : ℕ → Option A) (xs : List ℕ) (index i : ℕ)
      → filter_map f (items_at xs index (i + 1)) ≡ filter_map f (items_at xs index i) ++ option_to_list (option_and_then f (slice_get xs (index + i)))
  filtered_more f xs index i =
      ap (filter_map f) (part_more xs index i)
      ∙ filter_map-append f (items_at xs index i) (option_to_list (slice_get xs (index + i)))
      ∙ ap (λ l. filter_map f (items_at xs index i) ++ l) (filtered_one f (slice_get xs (index + i)))

  pub mapped_more : (f : ℕ → A) (xs : List ℕ) (index i : ℕ)
      → map f (items_at xs index (i + 1)) ≡ map f (items_at xs index i) ++ option_to_list (option_map f (slice_get xs (index + i)))
  mapped_more f xs index i =
      ap (map f) (part_more xs index i)
      ∙ map-append f (items_at xs index i) (option_to_list (slice_get xs (index + i)))
      ∙ ap (λ l. map f (items_at xs index i) ++ l) (mapped_one f (slice_get xs (index + i)))

  -- a list to which one item was added, or none
  pub added_one : (begun seen more before after : List A) (x : A) (o : Option A)
      → before ≡ begun ++ seen → more ≡ seen ++ option_to_list o → Some x ≡ o → after ≡ before ++ x ∷ [] → after ≡ begun ++ more
  added_one begun seen more before after x o so_far m found added =
      added
      ∙ ap (λ l. l ++ x ∷ []) so_far
      ∙ append_assoc begun seen (x ∷ [])
      ∙ ap (λ p. begun ++ (seen ++ option_to_list p)) found
      ∙ ap (λ l. begun ++ l) (sym m)

  pub added_none : (begun seen more before after : List A) (o : Option A)
      → before ≡ begun ++ seen → more ≡ seen ++ option_to_list o → None ≡ o → after ≡ before → after ≡ begun ++ more
  added_none begun seen more before after o so_far m found same =
      same ∙ so_far ∙ ap (λ l. begun ++ l) (sym (m ∙ ap (λ p. seen ++ option_to_list p) (sym found) ∙ append-nil seen))
