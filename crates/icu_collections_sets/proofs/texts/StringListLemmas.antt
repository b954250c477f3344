-- Facts on texts, and on strings that are sorted by bytes.
use Rattle.std.proofs.Common.{◌≡◌, ℕ, ◌+◌, ◌-◌, ◌<◌, List, [], ◌∷◌, ◌++◌, length, get_or, map, Ordering, Less, Equal, Greater, Result, Ok, Err, None, Some, String, Global, string_bytes, nat_cmp, false, IsTrue, is_ok, ◌↔◌, refl, sym, ap, ◌∙◌, subst, arith, inl, inr}
use Rattle.std.proofs.lemmas.Bool.{cases_lt, false≢true}
use Rattle.std.proofs.lemmas.Cmp.{nat_list_cmp_total, tied_itself}
use Rattle.std.proofs.lemmas.List.{get_or-map, length-map}
use Rattle.std.proofs.lemmas.List.Sorted.{searchable_from_sorted}
use Rattle.std.proofs.lemmas.Map.Text.{is_eq-slice_cmp}
use Rattle.std.proofs.lemmas.Slice.Eq.{bytes_eq-Decides}
use Rattle.std.proofs.lemmas.Str.{chars-nil, chars_past_char, IsUtf8-past_char, encodes-chars}
use Rattle.std.specs.Cmp.Lexicographic.{slice_cmp}
use Rattle.std.specs.List.{Contains, AllWithin}
use Rattle.std.specs.List.Sorted.{IsBinarySearchResult, IsSearchInRange, IsSortedBy}
use Rattle.std.specs.Ordering.{ordering_reverse, is_eq, is_lt}
use Rattle.std.specs.Str.{IsUtf8, chars}
use lib.Utf8.{encode, encodes}
use Rattle.icu_collections_sets.specs.StringList.{text_at, AreStringsUpTo, AreStrings}
use Rattle.icu_collections_sets.specs.StringListFaults.{IsFirstFault}
use Rattle.icu_collections_sets.specs.StringListOffences.{IsOffence}
use Rattle.icu_collections_sets.specs.declared.codepointinvliststringlist.InvalidStringList.TheVariants.{StringListNotUnique}
use Rattle.icu_collections_sets.specs.declared.codepointinvliststringlist.Offence.TheVariants.{NotUnique}

empty_list : {A : Type 0} → (xs : List A) → length xs ≡ 0 → xs ≡ []
empty_list [] h = refl
empty_list (x ∷ xs) h = absurd (omega arith)

-- a text of which nothing is left after its first character, and one of which something is
pub chars_only : (text rest : List ℕ) (c : ℕ) → IsUtf8 text → text ≡ encode c ++ rest → length rest ≡ 0 → chars text ≡ c ∷ []
chars_only text rest c u e h = chars_past_char text rest c u e ∙ ap (λ r. c ∷ chars r) (empty_list rest h) ∙ ap (λ r. c ∷ r) chars-nil

pub chars_more : (text rest : List ℕ) (c : ℕ) → IsUtf8 text → text ≡ encode c ++ rest → (length rest ≡ 0 → ⊥) → length (chars text) ≡ 1 → ⊥
chars_more text rest c u e more one =
    let all = ap length (chars_past_char text rest c u e) in
    let none : chars rest ≡ [] = empty_list (chars rest) (omega arith) in
    more (ap length (sym (encodes-chars rest (IsUtf8-past_char text rest c u e)) ∙ ap encodes none))

pub AreStringsUpTo-none : (texts : List (List ℕ)) → AreStringsUpTo texts 0
AreStringsUpTo-none texts = record { several = λ k h. absurd (omega arith); rising = λ k h. absurd (omega arith) }

pub AreStringsUpTo-more : (texts : List (List ℕ)) (index next : ℕ) → index + 1 ≡ next → AreStringsUpTo texts index → IsOffence texts index None → AreStringsUpTo texts next
AreStringsUpTo-more texts index next e w h = record {
  several = λ k l. elim (cases_lt k index) [
    | inl below ↦ w.several k below
    | inr up ↦ let same : index ≡ k = omega arith in subst (λ i. length (chars (text_at texts i)) ≡ 1 → ⊥) same h.0
  ];
  rising = λ k l. elim (cases_lt (k + 1) index) [
    | inl below ↦ w.rising k below
    | inr up ↦
        let same : index ≡ k + 1 = omega arith in
        let before : index - 1 ≡ k = omega arith in
        let first = h.1 (omega arith) in
        subst (λ i. slice_cmp nat_cmp (text_at texts i) (text_at texts (k + 1)) ≡ Less) before (subst (λ i. slice_cmp nat_cmp (text_at texts (index - 1)) (text_at texts i) ≡ Less) same first)
  ];
}

-- texts that compare as equal are the same
pub same_texts : (xs ys : List ℕ) → slice_cmp nat_cmp xs ys ≡ Equal → xs ≡ ys
same_texts xs ys h = (bytes_eq-Decides xs ys).0 (sym (is_eq-slice_cmp xs ys) ∙ ap is_eq h)

-- the text at an index, by the string there
pub text_at-map : (strings : List (String Global)) (index : ℕ) (text : String Global) → index < length strings → text ≡ get_or strings index text → string_bytes text ≡ text_at (map string_bytes strings) index
text_at-map strings index text h e = ap string_bytes e ∙ sym (get_or-map string_bytes strings index text [] h)

turned_over : (o : Ordering) → o ≡ Less → is_lt (ordering_reverse o) ≡ false
turned_over Less h = refl
turned_over Equal h = refl
turned_over Greater h = cc

sorted_strings : (strings : List (String Global)) → AreStrings (map string_bytes strings) → IsSortedBy (λ a b. is_lt (slice_cmp nat_cmp (string_bytes a) (string_bytes b))) strings
sorted_strings strings w k d low h =
    let total = nat_list_cmp_total.antisymm (string_bytes (get_or strings (k + 1) d)) (string_bytes (get_or strings k d)) in
    let first = get_or-map string_bytes strings k d [] (omega arith) in
    let second = get_or-map string_bytes strings (k + 1) d [] (omega arith) in
    let count = length-map strings string_bytes in
    let rise = w.rising k (omega arith) in
    let up : slice_cmp nat_cmp (string_bytes (get_or strings k d)) (string_bytes (get_or strings (k + 1) d)) ≡ Less = ap (λ t. slice_cmp nat_cmp t (string_bytes (get_or strings (k + 1) d))) (sym first) ∙ ap (λ t. slice_cmp nat_cmp (text_at (map string_bytes strings) k) t) (sym second) ∙ rise in
    ap is_lt total ∙ turned_over _ up

less≢equal : Less ≡ Equal → ⊥
less≢equal h = cc

greater≢equal : Greater ≡ Equal → ⊥
greater≢equal h = cc

itself : (xs ys : List ℕ) → xs ≡ ys → slice_cmp nat_cmp xs ys ≡ Equal
itself xs ys h = ap (slice_cmp nat_cmp xs) (sym h) ∙ tied_itself nat_list_cmp_total xs

missing : (strings : List (String Global)) (text : List ℕ) (index : ℕ) → AllWithin (λ s. slice_cmp nat_cmp (string_bytes s) text ≡ Less) strings 0 index → AllWithin (λ s. slice_cmp nat_cmp (string_bytes s) text ≡ Greater) strings index (length strings)
    → (k : ℕ) → k < length strings → get_or (map string_bytes strings) k text ≡ text → ⊥
missing [] text index low high k h e = absurd (omega arith)
missing (s ∷ strings) text index low high k h e =
    let list = s ∷ strings in
    let same = itself _ _ (sym (get_or-map string_bytes list k s text h) ∙ e) in
    elim (cases_lt k index) [
      | inl below ↦ less≢equal (sym (low k s (omega arith) below) ∙ same)
      | inr up ↦ greater≢equal (sym (high k s (omega arith) h) ∙ same)
    ]

-- what a binary search for a text finds
pub searched_text : (strings : List (String Global)) (text : List ℕ) (r : Result ℕ ℕ) → AreStrings (map string_bytes strings) → IsSearchInRange r (length strings) → IsBinarySearchResult (λ s. slice_cmp nat_cmp (string_bytes s) text) strings r → IsTrue (is_ok r) ↔ Contains (map string_bytes strings) text
searched_text [] text (Ok index) w within found = absurd (omega arith)
searched_text (s ∷ strings) text (Ok index) w within found =
    let list = s ∷ strings in
    let same : get_or (map string_bytes list) index text ≡ text = get_or-map string_bytes list index s text within ∙ same_texts _ _ (found s) in
    let count = length-map list string_bytes in
    let inside : index < length (map string_bytes list) = omega arith in
    (λ t. (index, inside, same), λ h. refl)
searched_text strings text (Err index) w within found =
    let parts = found (searchable_from_sorted nat_list_cmp_total string_bytes strings text (sorted_strings strings w)) in
    let count = length-map strings string_bytes in
    (λ t. absurd (false≢true t), λ h. absurd (missing strings text index parts.0 parts.1 h.0 (omega (arith, h.1)) h.2))

-- the fault of a string that equals the one before
pub not_unique : (strings : List (String Global)) (index : ℕ) (text : String Global) → index < length strings → AreStringsUpTo (map string_bytes strings) index → IsOffence (map string_bytes strings) index (Some NotUnique)
    → text ≡ get_or strings index text → IsFirstFault (map string_bytes strings) (StringListNotUnique text)
not_unique strings index text within before offence is = record {
  index = index;
  within = omega (arith, length-map strings string_bytes);
  before = before;
  wrong = (text_at-map strings index text within is, offence.0, offence.1, same_texts _ _ offence.2);
}
