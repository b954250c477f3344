-- What the words of full lists state, also when scalars24 grows at its end.
use Rattle.std.proofs.Common.{◌≡◌, ℕ, ◌+◌, ◌-◌, ◌*◌, ◌/◌, ◌%◌, ◌^◌, ◌<◌, ◌≤◌, ⊎_elim, true, false, leb, slice_index, List, [], ◌∷◌, ◌++◌, length, take, drop, refl, sym, ap, subst, ◌∙◌, arith, append_assoc, length-append}
use Rattle.std.specs.List.{All}
use Rattle.std.specs.Char.{IsScalar}
use lib.Utf8.{scalar_cases}
use Rattle.std.proofs.lemmas.Bool.{cond-true, cond-false, le-ltb}
use Rattle.std.proofs.lemmas.Bool.Decides.{nat_tests}
use Rattle.icu_normalizer_core.specs.CanonicalWords.{is_list_word, is_pair_word, is_one_word, states_list, is_inside, items_at, list_offset, length_in_24, full_of_word}
use Rattle.std.proofs.lemmas.List.Elements.{All-head}
use Rattle.icu_normalizer_core.specs.ListWords.{StatesList, KeepsStating}
use Rattle.icu_normalizer_core.proofs.full_lists.FullListLemmas.{listed_in_24, full_listed}

-- ---- Words that state the list by themselves

pub inside_apart : (s16 s24 : List ℕ) (word : ℕ) → is_list_word word ≡ false → is_inside s16 s24 word ≡ true
unfolding is_inside
inside_apart s16 s24 word off = cond-false (is_list_word word) _ _ off

full_pair : (s16 s24 : List ℕ) (c word : ℕ) → is_list_word word ≡ false → is_pair_word word ≡ true → full_of_word s16 s24 c word ≡ (word % 2 ^ 15) ∷ (word / 2 ^ 15) ∷ []
unfolding full_of_word
full_pair s16 s24 c word off on = cond-false (is_list_word word) _ _ off ∙ cond-true (is_pair_word word) _ _ on

full_one : (s16 s24 : List ℕ) (c word : ℕ) → is_list_word word ≡ false → is_pair_word word ≡ false → is_one_word word ≡ true → full_of_word s16 s24 c word ≡ word ∷ []
unfolding full_of_word
full_one s16 s24 c word off not_pair on =
    cond-false (is_list_word word) _ _ off ∙ cond-false (is_pair_word word) _ _ not_pair ∙ cond-true (is_one_word word) _ _ on

low_not_listed : (a : ℕ) → a < 0x10000 → is_list_word a ≡ false
low_not_listed a h = grind (arith, nat_tests)

low_not_pair : (a : ℕ) → a < 0x10000 → is_pair_word a ≡ false
low_not_pair a h = grind (arith, nat_tests)

one_from : (a : ℕ) → IsScalar a → 2 ≤ a → a < 0x10000 → is_one_word a ≡ true
one_from a s l h = ⊎_elim (λ (low : a < 0xd800). grind (arith, nat_tests)) (λ high. let from = high.0 in grind (arith, nat_tests)) (scalar_cases a s)

states_one : (a : ℕ) → is_one_word a ≡ true → states_list a ≡ true
states_one a e = rw e refl

pub one_stated : (a : ℕ) → IsScalar a → 2 ≤ a → a < 0x10000 → (s16 s24 : List ℕ) → StatesList s16 s24 a (a ∷ [])
one_stated a s l h s16 s24 = record {
  fits = omega arith;
  states = states_one a (one_from a s l h);
  inside = inside_apart s16 s24 a (low_not_listed a h);
  full = λ c. full_one s16 s24 c a (low_not_listed a h) (low_not_pair a h) (one_from a s l h);
}

pair_from : (word : ℕ) → 0x10000 ≤ word → 0x20 ≤ word % 2 ^ 15 → is_pair_word word ≡ true
pair_from word h l = grind (arith, nat_tests)

pair_not_listed : (word : ℕ) → 0x20 ≤ word % 2 ^ 16 → is_list_word word ≡ false
pair_not_listed word l = grind (arith, nat_tests)

states_pair : (word : ℕ) → is_pair_word word ≡ true → states_list word ≡ true
states_pair word e = grind (arith, nat_tests)

pub two_stated : (a b : ℕ) → 0x20 ≤ a → a < 0x8000 → 2 ≤ b → b < 0x8000 → (s16 s24 : List ℕ) → StatesList s16 s24 (b * 0x8000 + a) (a ∷ b ∷ [])
two_stated a b la ha lb hb s16 s24 =
    let word : ℕ = b * 0x8000 + a in
    let off : is_list_word word ≡ false = pair_not_listed word (omega arith) in
    let low : word % 2 ^ 15 ≡ a = omega arith in
    let high : word / 2 ^ 15 ≡ b = omega arith in
    let on : is_pair_word word ≡ true = pair_from word (omega arith) (omega arith) in
    record {
      fits = omega arith;
      states = states_pair word on;
      inside = inside_apart s16 s24 word off;
      full = λ c. full_pair s16 s24 c word off on ∙ ap (λ (x : ℕ). x ∷ (word / 2 ^ 15) ∷ []) low ∙ ap (λ (y : ℕ). a ∷ y ∷ []) high;
    }

-- ---- Lists apart from their words

front : (list more : List ℕ) → take (length list) (list ++ more) ≡ list
front [] more = refl
front (x ∷ xs) more = ap (λ (t : List ℕ). x ∷ t) (front xs more)

middle : (old list more : List ℕ) → take (length list) (drop (length old) ((old ++ list) ++ more)) ≡ list
middle [] list more = front list more
middle (x ∷ old) list more = middle old list more

listed_from : (word : ℕ) → 0x10000 ≤ word → word % 2 ^ 16 < 0x20 → is_list_word word ≡ true
listed_from word h l = grind (arith, nat_tests)

states_listed : (word : ℕ) → is_list_word word ≡ true → states_list word ≡ true
states_listed word e = grind (arith, nat_tests)

inside_listed : (s16 s24 : List ℕ) (word : ℕ) → is_list_word word ≡ true → length s16 ≤ list_offset word
    → list_offset word - length s16 + length_in_24 word ≤ length s24 → is_inside s16 s24 word ≡ true
unfolding is_inside
inside_listed s16 s24 word on past within =
    cond-true (is_list_word word) _ _ on ∙ cond-false _ _ _ (le-ltb (list_offset word) (length s16) past) ∙ within_from (list_offset word - length s16 + length_in_24 word) (length s24) within
  where
    within_from : (a b : ℕ) → a ≤ b → leb a b ≡ true
    within_from a b h = grind (arith, nat_tests)

pub list_stated : (s16 old list new : List ℕ) (word : ℕ) → 0 < length list → length list ≤ 8 → length s16 + length old < 2 ^ 14 - 1
    → word ≡ (length s16 + length old + 1) * 0x10000 + (length list - 1) → new ≡ old ++ list → KeepsStating s16 new word list
list_stated s16 old list new word some few room is grown more =
    let lower : word % 2 ^ 16 ≡ length list - 1 = omega arith in
    let offset : list_offset word ≡ length s16 + length old = omega arith in
    let count : length_in_24 word ≡ length list = omega arith in
    let index : list_offset word - length s16 ≡ length old = omega arith in
    let on : is_list_word word ≡ true = listed_from word (omega arith) (omega arith) in
    let size : length (new ++ more) ≡ length old + length list + length more =
    ap (λ (t : List ℕ). length (t ++ more)) grown ∙ length-append (old ++ list) more ∙ ap (λ (n : ℕ). n + length more) (length-append old list) in
    record {
      fits = omega arith;
      states = states_listed word on;
      inside = inside_listed s16 (new ++ more) word on (omega arith) (omega arith);
      full = λ c. full_listed s16 (new ++ more) c word on ∙ listed_in_24 s16 (new ++ more) word (omega arith)
          ∙ ap (λ (n : ℕ). items_at (new ++ more) n (length_in_24 word)) index ∙ ap (items_at (new ++ more) (length old)) count
          ∙ ap (λ (t : List ℕ). items_at (t ++ more) (length old) (length list)) grown ∙ middle old list more;
    }

-- what a word states stands when scalars24 grows at its end
pub keeps_stating : (s16 s24 more : List ℕ) (word : ℕ) (list : List ℕ) → KeepsStating s16 s24 word list → KeepsStating s16 (s24 ++ more) word list
keeps_stating s16 s24 more word list h further =
    subst (λ (t : List ℕ). StatesList s16 t word list) (sym (append_assoc s24 more further)) (h (more ++ further))

-- ---- The same of a list by its length

pub one_of : (list : List ℕ) → All IsScalar list → length list ≡ 1 → 2 ≤ slice_index list 0 → slice_index list 0 < 0x10000
    → (s16 s24 : List ℕ) → StatesList s16 s24 (slice_index list 0) list
one_of [] all len l h = absurd (omega arith)
one_of (a ∷ []) all len l h = one_stated a (All-head IsScalar a [] all) l h
one_of (a ∷ b ∷ rest) all len l h = absurd (omega arith)

pub two_of : (list : List ℕ) → length list ≡ 2 → 0x20 ≤ slice_index list 0 → slice_index list 0 < 0x8000 → 2 ≤ slice_index list 1 → slice_index list 1 < 0x8000
    → (s16 s24 : List ℕ) → StatesList s16 s24 (slice_index list 1 * 0x8000 + slice_index list 0) list
two_of [] len la ha lb hb = absurd (omega arith)
two_of (a ∷ []) len la ha lb hb = absurd (omega arith)
two_of (a ∷ b ∷ []) len la ha lb hb = two_stated a b la ha lb hb
two_of (a ∷ b ∷ c ∷ rest) len la ha lb hb = absurd (omega arith)
