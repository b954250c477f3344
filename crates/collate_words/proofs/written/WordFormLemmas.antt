-- The forms of words that are written, and the words within them, by their tags.
use Rattle.std.proofs.Common.{◌≡◌, ◌≢◌, ◌⊎◌, inl, inr, ⊎_elim, ℕ, ◌+◌, ◌%◌, ◌^◌, ◌<◌, Bool, true, false, cond, List, None, ap, ◌∙◌, arith}
use Rattle.std.specs.Prelude.{◌==◌, ◌||◌, not, leb, length, reverse, slice_index}
use Rattle.std.proofs.lemmas.Bool.{and_from, and_left, and_parts, both_ways, cond-false, cond-true, eq-eqb, le-leb, not-true, not_from_false, or_cases, or_left}
use Rattle.icu_collator_types.specs.declared.elements.word_tags.Tag.{Tag}
use Rattle.icu_collator_types.specs.declared.elements.word_tags.Tag.TheVariants.{LongPrimary, LongSecondary, Expansion32, Expansion, Prefix, Contraction, Digit, Offset, Implicit}
use Rattle.icu_collator_types.specs.ElementWords.{has_tag, is_special, tag_number}
use Rattle.icu_collator_core.specs.Pools.{Pools, default_word, index_of, lone_word, prefix_word, suffix_word, unprefixed_word, word_in_context}
use Rattle.icu_collator_core.specs.WordForms.{has_form, is_list_of_words, is_other_own, is_own_word, states_element}
use Rattle.icu_collator_core.specs.WordIndices.{has_digit_word, has_items, has_list}
use Rattle.icu_collator_core.proofs.meaning.WordTagLemmas.{other_tag}

-- ---- Tags

-- a word whose low byte is a tag's has its form
pub form_of_low : (tag : Tag) (word number : ℕ) → tag_number tag ≡ number → number < 16 → word % 2 ^ 8 ≡ 0xc0 + number
    → has_form tag word ≡ true
form_of_low tag word number is small low =
    and_from (leb (word % 2 ^ 8) 0xcf) (has_tag tag word) (le-leb (word % 2 ^ 8) 0xcf (omega (arith, small, low)))
    (and_from (is_special word) (word % 2 ^ 4 == tag_number tag) (le-leb 0xc0 (word % 2 ^ 8) (omega (arith, low)))
    (eq-eqb (word % 2 ^ 4) (tag_number tag) (omega (arith, is, small, low))))

pub tag_of_form : (tag : Tag) (word : ℕ) → has_form tag word ≡ true → has_tag tag word ≡ true
tag_of_form tag word form = (and_parts (leb (word % 2 ^ 8) 0xcf) (has_tag tag word) form).1

pub not_both : {A : Type 0} (b : Bool) → b ≡ true → b ≡ false → A
not_both b t f = absurd (both_ways b f t)

-- a word that needs no look at other characters names no context, and is no digit's
pub untagged : (pools : Pools) (word : ℕ) (tag : Tag) → 7 < tag_number tag → tag_number tag < 11
    → is_own_word pools word ≡ true
    → has_tag tag word ≡ false
untagged pools word tag low high own = by_form (or_cases _ _ own)
  where
    formed : (other : Tag) → tag_number tag ≢ tag_number other → has_form other word ≡ true → has_tag tag word ≡ false
    formed other differs form = other_tag tag other word (tag_of_form other word form) differs

    by_state : (not (is_special word) ≡ true) ⊎ ((has_form LongPrimary word || has_form LongSecondary word) ≡ true)
        → has_tag tag word ≡ false
    by_state (inl plain) = and_left (is_special word) (word % 2 ^ 4 == tag_number tag)
        (not-true (is_special word) plain)
    by_state (inr form) =
        ⊎_elim (formed LongPrimary (λ same. omega (arith, same, low)))
        (formed LongSecondary (λ same. omega (arith, same, low))) (or_cases _ _ form)

    by_other : (has_form Expansion word ≡ true) ⊎ ((has_form Offset word || has_form Implicit word) ≡ true)
        → has_tag tag word ≡ false
    by_other (inl form) = formed Expansion (λ same. omega (arith, same, low)) form
    by_other (inr form) =
        ⊎_elim (formed Offset (λ same. omega (arith, same, high)))
        (formed Implicit (λ same. omega (arith, same, high))) (or_cases _ _ form)

    by_list : (is_list_of_words pools word ≡ true) ⊎ (is_other_own word ≡ true) → has_tag tag word ≡ false
    by_list (inl list) = formed Expansion32 (λ same. omega (arith, same, low))
        (and_parts (has_form Expansion32 word) _ list).0
    by_list (inr other) = by_other (or_cases _ _ other)

    by_form : (states_element word ≡ true) ⊎ ((is_list_of_words pools word || is_other_own word) ≡ true)
        → has_tag tag word ≡ false
    by_form (inl stated) = by_state (or_cases _ _ stated)
    by_form (inr other) = by_list (or_cases _ _ other)

-- ---- What words name

without_list : (tag : Tag) (len word : ℕ) → has_tag tag word ≡ false → has_list tag len word ≡ true
without_list tag len word h = or_left (not (has_tag tag word)) _ (not_from_false (has_tag tag word) h)

-- a word that names a context, or is a digit's, names no elements
pub no_items : (pools : Pools) (word : ℕ) (tag : Tag) → 7 < tag_number tag → tag_number tag < 11 → has_tag tag word
    ≡ true → has_items pools word ≡ true
no_items pools word tag low high h =
    and_from _ _ (without_list Expansion32 (length pools.ce32s) word
    (other_tag Expansion32 tag word h (λ same. omega (arith, same, low))))
    (and_from _ _ (without_list Expansion (length pools.ces) word
    (other_tag Expansion tag word h (λ same. omega (arith, same, low))))
    (or_left (not (has_tag Offset word)) _ (not_from_false (has_tag Offset word)
    (other_tag Offset tag word h (λ same. omega (arith, same, high))))))

pub no_digit_word : (pools : Pools) (word : ℕ) → has_tag Digit word ≡ false → has_digit_word pools word ≡ true
no_digit_word pools word h = or_left (not (has_tag Digit word)) _ (not_from_false (has_tag Digit word) h)

-- ---- Words within words, by the word where no prefix counts

pub unprefixed_default : (pools : Pools) (word : ℕ) → has_tag Prefix word ≡ true → unprefixed_word pools word
    ≡ default_word pools.contexts (index_of word)
unfolding unprefixed_word
unprefixed_default pools word h = cond-true (has_tag Prefix word) (default_word pools.contexts (index_of word)) word h

module _ (pools : Pools) (word behind : ℕ) (is : unprefixed_word pools word ≡ behind) where
  lone_along : lone_word pools word
      ≡ cond (has_tag Contraction behind) (default_word pools.contexts (index_of behind))
      (cond (has_tag Digit behind) (slice_index pools.ce32s (index_of behind)) behind)
  unfolding lone_word
  lone_along =
      ap (λ (one : ℕ). cond (has_tag Contraction one) (default_word pools.contexts (index_of one))
      (cond (has_tag Digit one) (slice_index pools.ce32s (index_of one)) one)) is

  pub lone_default : has_tag Contraction behind ≡ true → lone_word pools word
      ≡ default_word pools.contexts (index_of behind)
  lone_default h = lone_along ∙ cond-true (has_tag Contraction behind) _ _ h

  pub lone_digit : has_tag Contraction behind ≡ false → has_tag Digit behind ≡ true → lone_word pools word
      ≡ slice_index pools.ce32s (index_of behind)
  lone_digit h k = lone_along ∙ cond-false (has_tag Contraction behind) _ _ h ∙ cond-true (has_tag Digit behind) _ _ k

  pub lone_plain : has_tag Contraction behind ≡ false → has_tag Digit behind ≡ false → lone_word pools word ≡ behind
  lone_plain h k = lone_along ∙ cond-false (has_tag Contraction behind) _ _ h ∙ cond-false (has_tag Digit behind) _ _ k

  suffix_along : (cs : List ℕ) → suffix_word pools word cs
      ≡ cond (has_tag Contraction behind) (word_in_context pools.contexts (index_of behind) cs) None
  unfolding suffix_word
  suffix_along cs = ap (λ (one : ℕ). cond (has_tag Contraction one)
      (word_in_context pools.contexts (index_of one) cs) None) is

  pub suffix_some : (cs : List ℕ) → has_tag Contraction behind ≡ true
      → suffix_word pools word cs ≡ word_in_context pools.contexts (index_of behind) cs
  suffix_some cs h = suffix_along cs ∙ cond-true (has_tag Contraction behind) _ _ h

  pub suffix_none : (cs : List ℕ) → has_tag Contraction behind ≡ false → suffix_word pools word cs ≡ None
  suffix_none cs h = suffix_along cs ∙ cond-false (has_tag Contraction behind) _ _ h

pub prefix_some : (pools : Pools) (word : ℕ) (cs : List ℕ) → has_tag Prefix word ≡ true
    → prefix_word pools word cs ≡ word_in_context pools.contexts (index_of word) (reverse cs)
unfolding prefix_word
prefix_some pools word cs h = cond-true (has_tag Prefix word) _ _ h

pub prefix_none : (pools : Pools) (word : ℕ) (cs : List ℕ) → has_tag Prefix word ≡ false → prefix_word pools word cs
    ≡ None
unfolding prefix_word
prefix_none pools word cs h = cond-false (has_tag Prefix word) _ _ h
