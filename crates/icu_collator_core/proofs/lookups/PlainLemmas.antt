-- A character whose word states an element is read alone.
use Rattle.std.proofs.Common.{◌≡◌, ℕ, ◌<◌, Bool, true, false, ltb, leb, ◌&&◌, ◌||◌, cond, List, [], ◌∷◌, length, take, reverse, Option, Some, None, refl, sym, ◌∙◌, ap, arith, ⊎_elim}
use Rattle.std.proofs.lemmas.Bool.{and_parts, cond-false, leb-true, ltb-true, or_cases}
use Rattle.std.proofs.lemmas.Bool.Decides.{nat_tests}
use Rattle.std.proofs.lemmas.List.{length-take-le}
use Rattle.std.specs.Prelude.{◌==◌, IfSome, option_map}
use Rattle.std.specs.Option.{option_and_then, unwrap_or}
use lib.Utf8.{scalars}
use Rattle.icu_collator_types.specs.declared.elements.word_tags.Tag.{Tag}
use Rattle.icu_collator_types.specs.declared.elements.word_tags.Tag.TheVariants.{Contraction, Digit, Implicit, Offset, Prefix}
use Rattle.icu_collator_types.specs.ElementWords.{has_tag, self_contained, tag_number}
use Rattle.icu_collator_core.specs.Elements.{Placed, at_greatest, behind_prefix, longest_prefix}
use Rattle.icu_collator_core.specs.PlainWords.{IsReadAlone, IsReadUncounted, IsUnprefixed}
use Rattle.icu_collator_core.specs.Pools.{Pools, element_of, elements_of_word, lone_word, stated_element, unprefixed_word}
use Rattle.icu_collator_core.specs.ReadWords.{AreSaidBy, default_by, elements_spelled_by}
use Rattle.icu_collator_core.specs.TableMeaning.{TableWord}
use Rattle.icu_collator_core.specs.Weights.{Weights}
use Rattle.icu_collator_core.proofs.lookups.AloneLemmas.{alone_said, alone_spelled, offset_spells_none}
use Rattle.icu_collator_core.proofs.lookups.MatchLemmas.{recorded_behind, scalars_front}
use Rattle.icu_collator_core.proofs.lookups.PrefixLemmas.{recorded_before, scalars_back}
use Rattle.icu_collator_core.proofs.lookups.LookedUpTextLemmas.{greatest_past}
use Rattle.icu_collator_core.proofs.meaning.WordTagLemmas.{lone_same, other_tag, stated_elements, stated_tag, unprefixed_same}

-- the element of a word that states one is all that the word spells
pub contained_spelled : (word : ℕ) (bits : Option ℕ) → (word == 0) ≡ false → bits ≡ self_contained word
    → IfSome bits (λ b. (pools : Pools) → elements_of_word pools word ≡ Some (element_of b ∷ []))
contained_spelled word None some e = tt
contained_spelled word (Some b) some e =
    λ pools. stated_elements pools word (element_of b) (cond-false (word == 0) _ _ some ∙ ap (option_map element_of) (sym e))

-- with a character whose word names no prefixes none is recorded
module _ (entry : TableWord) (no_prefix : has_tag Prefix entry.word ≡ false) (weights : Weights) (c : ℕ) (said : AreSaidBy weights entry c) where
  none_at : (before : List ℕ) → scalars before ≡ true → 0 < length before → weights.recorded (reverse before) (c ∷ []) ≡ None
  none_at before ok some =
      said.recorded (reverse before) [] (scalars_back before ok) refl
      ∙ recorded_before entry c before some
      ∙ ap (option_and_then (elements_of_word entry.pools)) (cond-false (has_tag Prefix entry.word) _ _ no_prefix)

  none_of_length : (p : Placed) → p.character ≡ c → scalars p.before ≡ true → (n : ℕ) → behind_prefix weights p n ≡ None
  none_of_length p is ok n = by_length (ltb 0 n && leb n (length p.before)) refl
    where
      by_length : (b : Bool) → (ltb 0 n && leb n (length p.before)) ≡ b
          → cond b (weights.recorded (reverse (take n p.before)) (p.character ∷ [])) None ≡ None
      by_length false inside = refl
      by_length true inside =
          let parts = and_parts (ltb 0 n) (leb n (length p.before)) inside in
          let above = ltb-true 0 n parts.0 in
          let count = length-take-le n p.before (leb-true n (length p.before) parts.1) in
          ap (λ d. weights.recorded (reverse (take n p.before)) (d ∷ [])) is
          ∙ none_at (take n p.before) (scalars_front n p.before ok) (omega (arith, above, count))

  pub none_before : IsUnprefixed weights c
  unfolding at_greatest
  none_before p is ok =
      greatest_past (behind_prefix weights p) 0 longest_prefix (omega arith) (λ n above within. none_of_length p is ok n)
      ∙ none_of_length p is ok 0

module _ (entry : TableWord) (no_prefix : has_tag Prefix entry.word ≡ false) (no_contraction : has_tag Contraction entry.word ≡ false) (weights : Weights) (c : ℕ) (said : AreSaidBy weights entry c) where
  none_behind : (d : ℕ) (ds : List ℕ) → scalars (d ∷ ds) ≡ true → weights.recorded [] (c ∷ d ∷ ds) ≡ None
  none_behind d ds ok =
      said.recorded [] (d ∷ ds) refl ok
      ∙ recorded_behind entry c (d ∷ ds) (omega arith)
      ∙ ap (option_and_then (elements_of_word entry.pools))
      (cond-false (has_tag Contraction (unprefixed_word entry.pools entry.word)) _ _ (ap (has_tag Contraction) (unprefixed_same entry.pools entry.word no_prefix) ∙ no_contraction))

  -- a word that names no context says nothing but the element that its lone word spells, unless it is a digit's
  read_uncounted : (bits : ℕ) → elements_spelled_by entry c (lone_word entry.pools entry.word) ≡ element_of bits ∷ [] → IsReadUncounted weights c bits
  read_uncounted bits spelled =
      record {
        before = none_before entry no_prefix weights c said;
        behind = none_behind;
        elements = sym (alone_said entry c weights said) ∙ sym (alone_spelled entry c) ∙ spelled;
      }

  -- nor does it where it is none
  read_without : has_tag Digit entry.word ≡ false → (bits : ℕ) → elements_spelled_by entry c entry.word ≡ element_of bits ∷ [] → IsReadAlone weights c bits
  read_without no_digit bits spelled =
      record {
        digit = said.digit ∙ cond-false (has_tag Digit entry.word) _ _ no_digit;
        uncounted = read_uncounted bits (ap (elements_spelled_by entry c) (lone_same entry.pools entry.word no_prefix no_contraction no_digit) ∙ spelled);
      }

-- a digit's word says nothing else where digits don't count, if its lone word states an element
read_digit : (entry : TableWord) (bits : ℕ) → has_tag Digit entry.word ≡ true → stated_element (lone_word entry.pools entry.word) ≡ Some (element_of bits)
    → (weights : Weights) (c : ℕ) → AreSaidBy weights entry c → IsReadUncounted weights c bits
read_digit entry bits has stated weights c said =
    read_uncounted entry (other_tag Prefix Digit entry.word has (λ same. omega (arith, same))) (other_tag Contraction Digit entry.word has (λ same. omega (arith, same)))
    weights c said bits
    (ap (λ o. unwrap_or o (default_by entry c ∷ [])) (stated_elements entry.pools (lone_word entry.pools entry.word) (element_of bits) stated))

pub read_digit_if_stated : (entry : TableWord) → has_tag Digit entry.word ≡ true → (bits : Option ℕ) → option_map element_of bits ≡ stated_element (lone_word entry.pools entry.word)
    → IfSome bits (λ b. (weights : Weights) (c : ℕ) → AreSaidBy weights entry c → IsReadUncounted weights c b)
read_digit_if_stated entry has None e = tt
read_digit_if_stated entry has (Some b) e = read_digit entry b has (sym e)

-- a word that states an element says nothing else
read_alone : (entry : TableWord) (bits : ℕ) → stated_element entry.word ≡ Some (element_of bits)
    → (weights : Weights) (c : ℕ) → AreSaidBy weights entry c → IsReadAlone weights c bits
read_alone entry bits stated weights c said =
    let e = element_of bits in
    read_without entry (stated_tag entry.word e stated Prefix (omega arith)) (stated_tag entry.word e stated Contraction (omega arith)) weights c said
    (stated_tag entry.word e stated Digit (omega arith)) bits
    (ap (λ o. unwrap_or o (default_by entry c ∷ [])) (stated_elements entry.pools entry.word e stated))

pub read_alone_if_stated : (entry : TableWord) (bits : Option ℕ) → option_map element_of bits ≡ stated_element entry.word
    → IfSome bits (λ b. (weights : Weights) (c : ℕ) → AreSaidBy weights entry c → IsReadAlone weights c b)
read_alone_if_stated entry None e = tt
read_alone_if_stated entry (Some b) e = read_alone entry b (sym e)

-- a word that leaves its character to a range or to its code point says nothing else
read_own : (entry : TableWord) (tag : Tag) → 10 < tag_number tag → has_tag tag entry.word ≡ true → elements_of_word entry.pools entry.word ≡ None
    → (bits c : ℕ) → element_of bits ≡ default_by entry c → (weights : Weights) → AreSaidBy weights entry c → IsReadAlone weights c bits
read_own entry tag above has none bits c own weights said =
    read_without entry (other_tag Prefix tag entry.word has (λ same. omega (arith, same, above))) (other_tag Contraction tag entry.word has (λ same. omega (arith, same, above))) weights c said
    (other_tag Digit tag entry.word has (λ same. omega (arith, same, above))) bits
    (ap (λ o. unwrap_or o (default_by entry c ∷ [])) none ∙ ap (λ e. e ∷ []) (sym own))

-- such a word has no elements
left_spells_none : (pools : Pools) (word : ℕ) → has_tag Implicit word ≡ true → elements_of_word pools word ≡ None
unfolding elements_of_word
left_spells_none pools word h = grind (arith, nat_tests)

pub read_own_if_left : (entry : TableWord) → (has_tag Implicit entry.word || has_tag Offset entry.word) ≡ true
    → (bits c : ℕ) → element_of bits ≡ default_by entry c → (weights : Weights) → AreSaidBy weights entry c → IsReadAlone weights c bits
read_own_if_left entry left bits c own weights said =
    ⊎_elim
    (λ (has : has_tag Implicit entry.word ≡ true). read_own entry Implicit (omega arith) has (left_spells_none entry.pools entry.word has) bits c own weights said)
    (λ (has : has_tag Offset entry.word ≡ true). read_own entry Offset (omega arith) has (offset_spells_none entry.pools entry.word has) bits c own weights said)
    (or_cases _ _ left)
