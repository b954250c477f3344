-- The longest prefix that is found by a word is the match of the weights that the word says.
use Rattle.std.proofs.Common.{◌≡◌, ℕ, zero, suc, ◌+◌, ◌-◌, ◌<◌, ◌≤◌, Bool, true, false, ltb, leb, ◌&&◌, cond, List, [], ◌∷◌, ◌++◌, length, take, get_or, reverse, Option, Some, None, refl, sym, ◌∙◌, ap, arith}
use Rattle.std.proofs.lemmas.Bool.{and_parts, and_from, and_right, cond-true, le-leb, lt-leb, lt-ltb, true≢false}
use Rattle.std.proofs.lemmas.Option.{cond_some, none-some}
use Rattle.std.proofs.lemmas.List.{get_or-reverse, get_or-take, get_or_read, length-reverse, length-take, length-take-le, reverse-append, reverse-reverse}
use Rattle.std.specs.Prelude.{min, option_map}
use Rattle.std.specs.Int.{cast_unsigned, w32}
use Rattle.std.specs.Option.{is_some, option_and_then}
use lib.Utf8.{scalar, scalars}
use Rattle.icu_char16trie.specs.Cursors.{Follows, answered, units_of}
use Rattle.icu_char16trie.specs.declared.Char16TrieIterator.{Char16TrieIterator}
use Rattle.icu_char16trie.specs.declared.TrieResult.{TrieResult}
use Rattle.icu_collator_types.specs.declared.elements.Element.{Element}
use Rattle.icu_collator_types.specs.declared.elements.word_tags.Tag.TheVariants.{Prefix}
use Rattle.icu_collator_types.specs.ElementWords.{has_tag}
use Rattle.icu_collator_core.specs.declared.reading.suffixes.LongerText.{LongerText}
use Rattle.icu_collator_core.specs.Elements.{Placed, at_greatest, behind_prefix, longest_prefix, prefix_match}
use Rattle.icu_collator_core.specs.Pools.{Pools, elements_of_word, index_of, prefix_word, trie_of, word_in_context}
use Rattle.icu_collator_core.specs.TableMeaning.{TableWord, recorded_by}
use Rattle.icu_collator_core.specs.Weights.{Weights}
use Rattle.icu_collator_core.specs.ReadTexts.{characters_before, found_or, longest_text, prefixed_by, text_by, text_of_length, word_by}
use Rattle.icu_collator_core.specs.ReadWords.{AreSaidBy}
use Rattle.icu_collator_core.proofs.lookups.MatchLemmas.{scalars_front}
use Rattle.icu_collator_core.proofs.lookups.LookedUpTextLemmas.{HasRead, greatest_past, read_more}

-- ---- Characters before an index

pub scalars_join : (xs ys : List ℕ) → scalars xs ≡ true → scalars ys ≡ true → scalars (xs ++ ys) ≡ true
scalars_join [] ys e f = f
scalars_join (x ∷ xs) ys e f =
    let parts = and_parts (scalar x) (scalars xs) e in
    and_from (scalar x) (scalars (xs ++ ys)) parts.0 (scalars_join xs ys parts.1 f)

pub scalars_back : (xs : List ℕ) → scalars xs ≡ true → scalars (reverse xs) ≡ true
scalars_back [] e = e
scalars_back (x ∷ xs) e =
    let parts = and_parts (scalar x) (scalars xs) e in
    let split : reverse (x ∷ xs) ≡ reverse xs ++ (x ∷ []) = reverse-append (x ∷ []) xs in
    ap scalars split ∙ scalars_join (reverse xs) (x ∷ []) (scalars_back xs parts.1) (and_from (scalar x) true parts.0 refl)

pub before_count : (list : List ℕ) (index : ℕ) → index ≤ length list → length (characters_before list index) ≡ min longest_prefix index
before_count list index within =
    length-take longest_prefix (reverse (take index list))
    ∙ ap (min longest_prefix) (length-reverse (take index list) ∙ length-take-le index list within)

pub before_at : (list : List ℕ) (index n x : ℕ) → index ≤ length list → n < index → n < longest_prefix → x ≡ get_or list (index - 1 - n) x
    → get_or (characters_before list index) n 0 ≡ x
before_at list index n x within inside few is =
    let count = length-take-le index list within in
    let less : n < length (take index list) = omega (arith, count) in
    let same : length (take index list) - 1 - n ≡ index - 1 - n = omega (arith, count) in
    get_or-take longest_prefix (reverse (take index list)) n 0 few
    ∙ get_or-reverse (take index list) n 0 less
    ∙ ap (λ i. get_or (take index list) i 0) same
    ∙ get_or-take index list (index - 1 - n) 0 (omega arith)
    ∙ sym (get_or_read list (index - 1 - n) x (omega arith) is 0)

pub read_back : (pools : Pools) (units list : List ℕ) (index n x : ℕ) (cursor after : Char16TrieIterator) (before longer : Option LongerText) (answer : TrieResult)
    → index ≤ length list → n < min index longest_prefix → x ≡ get_or list (index - 1 - n) x
    → HasRead pools units (characters_before list index) n cursor before → Follows cursor (units_of x) answer after
    → longer ≡ found_or (option_and_then (text_by pools (n + 1)) (option_map (cast_unsigned w32) (answered answer))) before
    → HasRead pools units (characters_before list index) (n + 1) after longer
read_back pools units list index n x cursor after before longer answer within inside is h step is_longer =
    let count = before_count list index within in
    read_more pools units (characters_before list index) n x cursor after before longer answer
    (omega (arith, count)) (before_at list index n x within (omega arith) (omega arith) is) h step is_longer

-- ---- Matches

greatest_given : {A B : Type 0} (f : ℕ → Option B) (h : ℕ → Option A) (g : A → Option B) (m : ℕ)
    → ((n : ℕ) → n ≤ m → f n ≡ option_and_then g (h n)) → ((n : ℕ) (t : A) → h n ≡ Some t → is_some (g t) ≡ true)
    → at_greatest f m ≡ option_and_then g (at_greatest h m)
unfolding at_greatest
greatest_given f h g zero same some = same 0 (omega arith)
greatest_given {A} {B} f h g (suc m) same some =
    by_last (h (suc m)) refl (greatest_given f h g m (λ n b. same n (omega (arith, b))) some)
  where
    by_value : (t : A) → h (suc m) ≡ Some t → (r : Option B) → g t ≡ r
        → (elim r as (λ _. Option B) [ Some y ↦ Some y | None ↦ at_greatest f m ]) ≡ r
    by_value t e (Some y) is = refl
    by_value t e None is = absurd (true≢false (sym (some (suc m) t e) ∙ ap (λ o. is_some o) is))

    by_last : (o : Option A) → h (suc m) ≡ o → at_greatest f m ≡ option_and_then g (at_greatest h m)
        → (elim (f (suc m)) as (λ _. Option B) [ Some y ↦ Some y | None ↦ at_greatest f m ])
        ≡ option_and_then g (elim o as (λ _. Option A) [ Some y ↦ Some y | None ↦ at_greatest h m ])
    by_last (Some t) e before =
        ap (λ o. elim o as (λ _. Option B) [ Some y ↦ Some y | None ↦ at_greatest f m ]) (same (suc m) (omega arith) ∙ ap (option_and_then g) e)
        ∙ by_value t e (g t) refl
    by_last None e before =
        ap (λ o. elim o as (λ _. Option B) [ Some y ↦ Some y | None ↦ at_greatest f m ]) (same (suc m) (omega arith) ∙ ap (option_and_then g) e)
        ∙ before

-- the record of a character after others
pub recorded_before : (entry : TableWord) (c : ℕ) (before : List ℕ) → 0 < length before
    → recorded_by entry c (reverse before) []
    ≡ option_and_then (elements_of_word entry.pools) (cond (has_tag Prefix entry.word) (word_by (trie_of entry.pools.contexts (index_of entry.word)) before) None)
unfolding recorded_by prefix_word word_in_context
recorded_before entry c before some = by_list (reverse before) refl
  where
    by_list : (xs : List ℕ) → reverse before ≡ xs → recorded_by entry c xs []
        ≡ option_and_then (elements_of_word entry.pools) (cond (has_tag Prefix entry.word) (word_by (trie_of entry.pools.contexts (index_of entry.word)) before) None)
    by_list [] e = absurd (let count = sym (length-reverse before) ∙ ap (λ (l : List ℕ). length l) e in omega (arith, count, some))
    by_list (b ∷ bs) e =
        ap (λ l. option_and_then (elements_of_word entry.pools) (cond (has_tag Prefix entry.word) (word_by (trie_of entry.pools.contexts (index_of entry.word)) l) None))
        (ap (λ (l : List ℕ). reverse l) (sym e) ∙ reverse-reverse before)

same_elements : (pools : Pools) (n : ℕ) (o : Option ℕ)
    → option_and_then (elements_of_word pools) o ≡ option_and_then (λ (t : LongerText). elements_of_word pools t.word) (option_and_then (text_by pools n) o)
unfolding text_by
same_elements pools n None = refl
same_elements pools n (Some word) = by_elements (elements_of_word pools word) refl
  where
    by_elements : (r : Option (List Element)) → elements_of_word pools word ≡ r
        → r ≡ option_and_then (λ (t : LongerText). elements_of_word pools t.word) (cond (is_some r) (Some (record { behind = n; word = word })) None)
    by_elements (Some es) e = sym e
    by_elements None e = refl

module _ (entry : TableWord) (before : List ℕ) where
  abbrev is_prefixed : Bool
  is_prefixed = has_tag Prefix entry.word

  abbrev units : List ℕ
  units = trie_of entry.pools.contexts (index_of entry.word)

  abbrev prefix_at : ℕ → Option LongerText
  prefix_at n = cond is_prefixed (text_of_length entry.pools units before n) None

  prefixed_is : prefixed_by entry before ≡ at_greatest prefix_at (length before)
  unfolding prefixed_by at_greatest
  prefixed_is = elim is_prefixed as (λ b. cond b (longest_text entry.pools units before) None ≡ at_greatest (λ n. cond b (text_of_length entry.pools units before n) None) (length before)) [
    | true ↦ refl
    | false ↦ sym (none_at (length before))
  ]
    where
      none_at : (n : ℕ) → at_greatest {A = LongerText} (λ n. None) n ≡ None
      none_at zero = refl
      none_at (suc n) = none_at n

  some_elements : (n : ℕ) (t : LongerText) → prefix_at n ≡ Some t → is_some (elements_of_word entry.pools t.word) ≡ true
  unfolding text_of_length text_by
  some_elements n t e = by_parts is_prefixed (ltb 0 n) (word_by units (take n before)) e
    where
      by_parts : (b a : Bool) (o : Option ℕ) → cond b (cond a (option_and_then (text_by entry.pools n) o) None) None ≡ Some t
          → is_some (elements_of_word entry.pools t.word) ≡ true
      by_parts false a o h = absurd (none-some t h)
      by_parts true false o h = absurd (none-some t h)
      by_parts true true None h = absurd (none-some t h)
      by_parts true true (Some word) h =
          let w = cond_some (is_some (elements_of_word entry.pools word)) (record { behind = n; word = word }) t h in
          ap (λ (u : LongerText). is_some (elements_of_word entry.pools u.word)) (sym w.1) ∙ w.0

  module _ (weights : Weights) (c : ℕ) (said : AreSaidBy weights entry c) (ok : scalars before ≡ true) where
    abbrev slot_of : Placed
    slot_of = record { character = c; before = before }

    abbrev elements_at : Option LongerText → Option (List Element)
    elements_at o = option_and_then (λ t. elements_of_word entry.pools t.word) o

    nothing_before : elements_at (prefix_at 0) ≡ None
    unfolding text_of_length
    nothing_before = elim is_prefixed as (λ b. elements_at (cond b None None) ≡ None) [ true ↦ refl | false ↦ refl ]

    at_some : (n : ℕ) → 0 < n → n ≤ length before → behind_prefix weights slot_of n ≡ elements_at (prefix_at n)
    unfolding text_of_length
    at_some n above within =
        let filled : 0 < length (take n before) = let count = length-take-le n before within in omega (arith, count) in
        ap (λ b. cond (b && leb n (length before)) (weights.recorded (reverse (take n before)) (c ∷ [])) None) (lt-ltb 0 n above)
        ∙ ap (λ b. cond b (weights.recorded (reverse (take n before)) (c ∷ [])) None) (le-leb n (length before) within)
        ∙ said.recorded (reverse (take n before)) [] (scalars_back (take n before) (scalars_front n before ok)) refl
        ∙ recorded_before entry c (take n before) filled
        ∙ same_elements entry.pools n (cond is_prefixed (word_by units (take n before)) None)
        ∙ (elim is_prefixed as (λ b. elements_at (option_and_then (text_by entry.pools n) (cond b (word_by units (take n before)) None))
        ≡ elements_at (cond b (cond (ltb 0 n) (option_and_then (text_by entry.pools n) (word_by units (take n before))) None) None)) [
          | true ↦ ap elements_at (sym (cond-true (ltb 0 n) (option_and_then (text_by entry.pools n) (word_by units (take n before))) None (lt-ltb 0 n above)))
          | false ↦ refl
        ])

    at_each : (n : ℕ) → n ≤ length before → behind_prefix weights slot_of n ≡ elements_at (prefix_at n)
    at_each zero within = sym nothing_before
    at_each (suc n) within = at_some (suc n) (omega arith) within

    past_all : (n : ℕ) → length before < n → behind_prefix weights slot_of n ≡ None
    past_all n past = ap (λ b. cond b (weights.recorded (reverse (take n before)) (c ∷ [])) None) (and_right (ltb 0 n) (leb n (length before)) (lt-leb n (length before) past))

    pub prefix_is : length before ≤ longest_prefix → prefix_match weights slot_of ≡ elements_at (prefixed_by entry before)
    prefix_is few =
        greatest_past (behind_prefix weights slot_of) (length before) longest_prefix few (λ n past _. past_all n past)
        ∙ greatest_given (behind_prefix weights slot_of) prefix_at (λ t. elements_of_word entry.pools t.word) (length before) at_each some_elements
        ∙ ap elements_at (sym prefixed_is)
