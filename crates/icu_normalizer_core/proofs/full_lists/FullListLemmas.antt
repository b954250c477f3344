-- Parts of a list of characters, and the full lists of words.
use Rattle.std.proofs.Common.{◌≡◌, ◌≢◌, ℕ, suc, ◌+◌, ◌-◌, ◌<◌, ◌≤◌, ⊎_elim, ◌==◌, List, [], ◌∷◌, length, drop, slice_index, Option, None, Some, true, refl, sym, subst, ap, ◌∙◌, arith, drop-cons, add-one}
use Rattle.std.specs.List.{All}
use Rattle.std.specs.Option.{unwrap_or}
use Rattle.std.specs.Char.{IsScalar}
use Rattle.std.proofs.lemmas.List.Elements.{All-tail}
use Rattle.std.proofs.lemmas.Bool.{cases_lt, cond-true, cond-false, cond_both, leb-true, lt-ltb, le-ltb}
use Rattle.std.proofs.lemmas.List.{length-drop, length-take}
use Rattle.icu_normalizer_core.specs.BuiltIn.{singled_out}
use Rattle.icu_normalizer_core.specs.CanonicalWords.{items_at, list_offset, length_in_16, length_in_24, list_at, is_inside, is_list_word, is_pair_word, is_one_word, is_singled_word, syllable_letters, full_of_word}
use Rattle.icu_normalizer_core.specs.FullLists.{IsPart}
use Rattle.icu_normalizer_core.proofs.built.BuiltInFacts.{all_singled_out}

-- a part begins with the item at its index
pub items_first : (items : List ℕ) (next end : ℕ) → next < end → end ≤ length items
    → items_at items next (end - next) ≡ slice_index items next ∷ items_at items (next + 1) (end - (next + 1))
items_first items next end h within =
    let inside : next < length items = omega arith in
    let count : end - next ≡ suc (end - (next + 1)) = omega arith in
    rw (count, drop-cons items next 0 inside, add-one) refl

pub part_behind : (items : List ℕ) (next end : ℕ) → IsPart items next end → next ≢ end → IsPart items (next + 1) end
part_behind items next end part other =
    let order = part.order in
    let h : next < end = omega arith in
    record {
      order = omega arith;
      inside = part.inside;
      scalars = All-tail IsScalar (slice_index items next) (items_at items (next + 1) (end - (next + 1))) (subst (All IsScalar) (items_first items next end h part.inside) part.scalars);
    }

first_item : (items : List ℕ) (index count : ℕ) → index < length items → items_at items index (suc count) ≡ slice_index items index ∷ items_at items (index + 1) count
first_item items index count inside = rw (drop-cons items index 0 inside, add-one) refl

pub three_items : (items : List ℕ) (index : ℕ) → index + 3 ≤ length items
    → items_at items index 3 ≡ slice_index items index ∷ slice_index items (index + 1) ∷ slice_index items (index + 2) ∷ []
three_items items index inside =
    let next : index + 1 + 1 ≡ index + 2 = omega arith in
    let last : items_at items (index + 1 + 1) 1 ≡ slice_index items (index + 2) ∷ [] = rw next (first_item items (index + 2) 0 (omega arith)) in
    first_item items index 2 (omega arith)
    ∙ ap (λ (l : List ℕ). slice_index items index ∷ l) (first_item items (index + 1) 1 (omega arith) ∙ ap (λ (l : List ℕ). slice_index items (index + 1) ∷ l) last)

-- the list of a word, in either index
pub listed_in_16 : (s16 s24 : List ℕ) (word : ℕ) → list_offset word < length s16
    → list_at s16 s24 word ≡ items_at s16 (list_offset word) (length_in_16 word)
unfolding list_at
listed_in_16 s16 s24 word h = cond-true _ _ _ (lt-ltb (list_offset word) (length s16) h)

pub listed_in_24 : (s16 s24 : List ℕ) (word : ℕ) → length s16 ≤ list_offset word
    → list_at s16 s24 word ≡ items_at s24 (list_offset word - length s16) (length_in_24 word)
unfolding list_at
listed_in_24 s16 s24 word h = cond-false _ _ _ (le-ltb (list_offset word) (length s16) h)

-- the full list of a word that names an index, and of one that doesn't
pub full_listed : (s16 s24 : List ℕ) (c word : ℕ) → is_list_word word ≡ true → full_of_word s16 s24 c word ≡ list_at s16 s24 word
unfolding full_of_word
full_listed s16 s24 c word h = cond-true _ _ _ h

-- ---- A full list inside the lists has a character

abbrev HasItem : List ℕ → Type 0
HasItem items = 1 ≤ length items

items_some : (items : List ℕ) (index count : ℕ) → 1 ≤ count → index + count ≤ length items → HasItem (items_at items index count)
items_some items index count some inside = omega (arith, length-drop index items, length-take count (drop index items))

listed_some : (s16 s24 : List ℕ) (word : ℕ) → is_list_word word ≡ true → is_inside s16 s24 word ≡ true → HasItem (list_at s16 s24 word)
unfolding is_inside
listed_some s16 s24 word list inside =
    let within = sym (cond-true (is_list_word word) _ true list) ∙ inside in
    ⊎_elim
    (λ lt.
    let fits = sym (cond-true _ _ _ (lt-ltb (list_offset word) (length s16) lt)) ∙ within in
    subst HasItem (sym (listed_in_16 s16 s24 word lt)) (items_some s16 (list_offset word) (length_in_16 word) (omega arith) (leb-true _ _ fits)))
    (λ ge.
    let fits = sym (cond-false _ _ _ (le-ltb (list_offset word) (length s16) ge)) ∙ within in
    subst HasItem (sym (listed_in_24 s16 s24 word ge)) (items_some s24 (list_offset word - length s16) (length_in_24 word) (omega arith) (leb-true _ _ fits)))
    (cases_lt (list_offset word) (length s16))

letters_some : (c : ℕ) → HasItem (syllable_letters c)
unfolding syllable_letters
letters_some c = omega arith

single_some : (c : ℕ) (o : Option (List ℕ)) → singled_out c ≡ o → HasItem (unwrap_or o (c ∷ []))
single_some c None e = omega arith
single_some c (Some ds) e =
    all_singled_out (λ d list. HasItem list) (omega arith) (omega arith) (omega arith) (omega arith) (omega arith) (omega arith) (omega arith) c ds e

pub full_some : (s16 s24 : List ℕ) (c word : ℕ) → is_inside s16 s24 word ≡ true → 1 ≤ length (full_of_word s16 s24 c word)
unfolding full_of_word
full_some s16 s24 c word inside =
    cond_both (is_list_word word) _ _ HasItem (λ list. listed_some s16 s24 word list inside)
    (λ _. cond_both (is_pair_word word) _ _ HasItem (λ _. omega arith)
    (λ _. cond_both (is_one_word word) _ _ HasItem (λ _. omega arith)
    (λ _. cond_both (word == 1) _ _ HasItem (λ _. letters_some c)
    (λ _. cond_both (is_singled_word word) _ _ HasItem (λ _. single_some c (singled_out c) refl) (λ _. omega arith)))))
