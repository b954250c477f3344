-- What forms words can have at once: a word has one tag, and what states an element has none that names an index.
use Rattle.std.proofs.Common.{◌≡◌, ◌≢◌, ℕ, ◌%◌, ◌/◌, ◌*◌, ◌^◌, ◌<◌, ◌⊎◌, inl, inr, Bool, true, false, cond, List, [], ◌∷◌, Option, Some, None, refl, ap, sym, ◌∙◌, arith, ⊎_elim}
use Rattle.std.specs.Prelude.{◌==◌, ◌||◌, not, leb, slice_index}
use Rattle.std.specs.Option.{option_map}
use Rattle.std.proofs.lemmas.Bool.{and_left, and_parts, and_right, cond-false, eqb-true, false≢true, ne_eqb, or_cases, true≢false}
use Rattle.std.proofs.lemmas.Option.{none-some}
use Rattle.icu_collator_types.specs.declared.elements.Element.{Element}
use Rattle.icu_collator_types.specs.declared.elements.word_tags.Tag.{Tag}
use Rattle.icu_collator_types.specs.declared.elements.word_tags.Tag.TheVariants.{LongPrimary, LongSecondary, Expansion32, Expansion, Prefix, Contraction, Digit, Offset, Implicit}
use Rattle.icu_collator_types.specs.ElementWords.{has_tag, is_special, long_primary_element, self_contained, simple_element, tag_number}
use Rattle.icu_collator_core.specs.declared.check.layers.Layer.{Layer}
use Rattle.icu_collator_core.specs.declared.check.layers.Layer.TheVariants.{Root, Tailoring}
use Rattle.icu_collator_core.specs.Pools.{Pools, default_word, digit_value, element_of, elements_of_word, expanded_elements, expanded_words, index_of, lone_word, stated_element, unprefixed_word}
use Rattle.icu_collator_core.specs.TableMeaning.{fallback}
use Rattle.icu_collator_core.specs.WordForms.{IsWord, has_form, is_digit_word, is_fallback, is_list_of_words, is_other_own, is_own_word, states_element}

-- ---- One tag

pub of_tag : (tag : Tag) (word : ℕ) → has_tag tag word ≡ true → word % 2 ^ 4 ≡ tag_number tag
of_tag tag word h = eqb-true (word % 2 ^ 4) (tag_number tag) (and_parts (is_special word) (word % 2 ^ 4 == tag_number tag) h).1

pub no_tag : (tag : Tag) (word : ℕ) → word % 2 ^ 4 ≢ tag_number tag → has_tag tag word ≡ false
no_tag tag word differs = and_right (is_special word) (word % 2 ^ 4 == tag_number tag) (ne_eqb (word % 2 ^ 4) (tag_number tag) differs)

pub other_tag : (tag other : Tag) (word : ℕ) → has_tag other word ≡ true → tag_number tag ≢ tag_number other → has_tag tag word ≡ false
other_tag tag other word h differs = no_tag tag word (λ same. differs (sym same ∙ of_tag other word h))

of_form : (tag : Tag) (word : ℕ) → has_form tag word ≡ true → has_tag tag word ≡ true
of_form tag word h = (and_parts (leb (word % 2 ^ 8) 0xcf) (has_tag tag word) h).1

-- ---- Words that state elements

-- the tag of a word that states an element, if it has one, is one of the first two
pub stated_tag : (word : ℕ) (e : Element) → stated_element word ≡ Some e → (tag : Tag) → 2 < tag_number tag → has_tag tag word ≡ false
stated_tag word e h tag more = at (word == 0) (has_tag LongSecondary word) (is_special word) (word % 2 ^ 8 == 0xc1) refl refl refl h
  where
    at : (zero second special first : Bool) → has_tag LongSecondary word ≡ second → is_special word ≡ special → (word % 2 ^ 8 == 0xc1) ≡ first
        → cond zero None (option_map element_of
        (cond second (Some (word / 2 ^ 8 * 2 ^ 8)) (cond special (cond first (Some (long_primary_element word)) None) (Some (simple_element word)))))
        ≡ Some e → has_tag tag word ≡ false
    at true second special first is_second is_special is_first k = absurd (none-some e k)
    at false true special first is_second is_special is_first k =
        let two = of_tag LongSecondary word is_second in no_tag tag word (λ same. omega (arith, same, two, more))
    at false false false first is_second is_special is_first k = and_left _ (word % 2 ^ 4 == tag_number tag) is_special
    at false false true true is_second is_special is_first k =
        let low = eqb-true (word % 2 ^ 8) 0xc1 is_first in no_tag tag word (λ same. omega (arith, same, low, more))
    at false false true false is_second is_special is_first k = absurd (none-some e k)

pub stated_elements : (pools : Pools) (word : ℕ) (e : Element) → stated_element word ≡ Some e → elements_of_word pools word ≡ Some (e ∷ [])
unfolding elements_of_word
stated_elements pools word e h =
    cond-false (word == 0) _ _ some
    ∙ cond-false (has_tag Expansion32 word) _ _ (stated_tag word e h Expansion32 (omega arith))
    ∙ cond-false (has_tag Expansion word) _ _ (stated_tag word e h Expansion (omega arith))
    ∙ ap (option_map (λ f. f ∷ [])) h
  where
    some : (word == 0) ≡ false
    some = at (word == 0) refl h
      where
        at : (zero : Bool) → (word == 0) ≡ zero → cond zero None (option_map element_of (self_contained word)) ≡ Some e → (word == 0) ≡ false
        at true is k = absurd (none-some e k)
        at false is k = is

-- a word that states an element says the same where nothing stands before or after
pub lone_same : (pools : Pools) (word : ℕ) → has_tag Prefix word ≡ false → has_tag Contraction word ≡ false → has_tag Digit word ≡ false
    → lone_word pools word ≡ word
unfolding lone_word unprefixed_word
lone_same pools word prefix contraction digit =
    ap (λ (unprefixed : ℕ). cond (has_tag Contraction unprefixed) (default_word pools.contexts (index_of unprefixed))
    (cond (has_tag Digit unprefixed) (slice_index pools.ce32s (index_of unprefixed)) unprefixed))
    (cond-false (has_tag Prefix word) (default_word pools.contexts (index_of word)) word prefix)
    ∙ cond-false (has_tag Contraction word) _ _ contraction
    ∙ cond-false (has_tag Digit word) _ _ digit

pub unprefixed_same : (pools : Pools) (word : ℕ) → has_tag Prefix word ≡ false → unprefixed_word pools word ≡ word
unfolding unprefixed_word
unprefixed_same pools word prefix = cond-false (has_tag Prefix word) (default_word pools.contexts (index_of word)) word prefix

-- ---- The entry of a range has no elements

pub unranged : (pools : Pools) (word : ℕ) (es : List Element) → elements_of_word pools word ≡ Some es → has_tag Offset word ≡ false
unfolding elements_of_word
unranged pools word es h =
    at (word == 0) (has_tag Expansion32 word) (has_tag Expansion word) (stated_element word) refl refl refl refl h
  where
    at : (zero words elements : Bool) (stated : Option Element) → (word == 0) ≡ zero → has_tag Expansion32 word ≡ words
        → has_tag Expansion word ≡ elements → stated_element word ≡ stated
        → cond zero (Some []) (cond words (Some (expanded_words pools word)) (cond elements (Some (expanded_elements pools word)) (option_map (λ e. e ∷ []) stated)))
        ≡ Some es → has_tag Offset word ≡ false
    at true words elements stated is i j k l = ap (has_tag Offset) (eqb-true word 0 is)
    at false true elements stated is i j k l = other_tag Offset Expansion32 word i (λ same. omega (arith, same))
    at false false true stated is i j k l = other_tag Offset Expansion word j (λ same. omega (arith, same))
    at false false false None is i j k l = absurd (none-some es l)
    at false false false (Some e) is i j k l = stated_tag word e k Offset (omega arith)

-- ---- Words of digits

-- a word that needs no look at other characters is no digit's
undigital_own : (pools : Pools) (word : ℕ) → has_tag Digit word ≡ true → is_own_word pools word ≡ true → ⊥
undigital_own pools word digit own = by_form (or_cases _ _ own)
  where
    ten : (tag : Tag) → tag_number Digit ≢ tag_number tag → has_form tag word ≡ true → ⊥
    ten tag differs form = true≢false (sym digit ∙ other_tag Digit tag word (of_form tag word form) differs)

    by_state : (not (is_special word) ≡ true) ⊎ ((has_form LongPrimary word || has_form LongSecondary word) ≡ true) → ⊥
    by_state (inl plain) =
        true≢false (sym plain ∙ ap not (and_parts (is_special word) (word % 2 ^ 4 == tag_number Digit) digit).0)
    by_state (inr form) =
        ⊎_elim (ten LongPrimary (λ same. omega (arith, same))) (ten LongSecondary (λ same. omega (arith, same))) (or_cases _ _ form)

    by_other : (has_form Expansion word ≡ true) ⊎ ((has_form Offset word || has_form Implicit word) ≡ true) → ⊥
    by_other (inl form) = ten Expansion (λ same. omega (arith, same)) form
    by_other (inr form) =
        ⊎_elim (ten Offset (λ same. omega (arith, same))) (ten Implicit (λ same. omega (arith, same))) (or_cases _ _ form)

    by_list : (is_list_of_words pools word ≡ true) ⊎ (is_other_own word ≡ true) → ⊥
    by_list (inl list) = ten Expansion32 (λ same. omega (arith, same)) (and_parts (has_form Expansion32 word) _ list).0
    by_list (inr other) = by_other (or_cases _ _ other)

    by_form : (states_element word ≡ true) ⊎ ((is_list_of_words pools word || is_other_own word) ≡ true) → ⊥
    by_form (inl stated) = by_state (or_cases _ _ stated)
    by_form (inr other) = by_list (or_cases _ _ other)

-- the word of a digit, where words have their forms, has a value of at most 9
pub digit_small : (layer : Layer) (pools : Pools) (word : ℕ) → IsWord layer pools word → has_tag Digit word ≡ true → leb (digit_value word) 9 ≡ true
digit_small layer pools word is digit = by_kind is
  where
    left : (layer : Layer) → is_fallback layer word ≡ true → ⊥
    left Root h = false≢true h
    left Tailoring h = true≢false (sym digit ∙ ap (has_tag Digit) (eqb-true word fallback h))

    formed : (tag : Tag) → tag_number Digit ≢ tag_number tag → has_form tag word ≡ true → ⊥
    formed tag differs form = true≢false (sym digit ∙ other_tag Digit tag word (of_form tag word form) differs)

    by_kind : IsWord layer pools word → leb (digit_value word) 9 ≡ true
    by_kind (inl h) =
        ⊎_elim (λ none. absurd (left layer none))
        (λ (told : is_digit_word pools word ≡ true). (and_parts _ _ (and_parts (has_form Digit word) _ told).1).0) (or_cases _ _ h)
    by_kind (inr (inl (inl own))) = absurd (undigital_own pools word digit own)
    by_kind (inr (inl (inr contraction))) =
        absurd (formed Contraction (λ same. omega (arith, same)) (and_parts (has_form Contraction word) _ contraction.0).0)
    by_kind (inr (inr prefixed)) = absurd (formed Prefix (λ same. omega (arith, same)) prefixed.0)
