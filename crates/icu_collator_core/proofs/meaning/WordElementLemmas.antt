-- The elements that a word spells: what numbers they hold, and that they keep the rules where the word was found to.
use Rattle.std.proofs.Common.{◌≡◌, ℕ, ◌%◌, ◌/◌, ◌*◌, ◌+◌, ◌^◌, ◌<◌, ◌⊎◌, inl, inr, Bool, true, false, cond, List, [], ◌∷◌, Option, Some, None, refl, ap, sym, ◌∙◌, arith, ⊎_elim}
use Rattle.std.specs.Prelude.{◌==◌, ◌&&◌, ◌||◌, leb, ltb, filter_map, map, slice_index}
use Rattle.std.specs.List.{Contains, cons_option, list_all}
use Rattle.std.specs.Option.{option_map}
use Rattle.std.proofs.lemmas.Bool.{and_from, and_parts, cond-false, cond-true, eqb-true, false≢true, leb-true, le-leb, lt-ltb, or_cases}
use Rattle.std.proofs.lemmas.List.Elements.{All-contains}
use Rattle.std.proofs.lemmas.List.Sums.{AllPass-from_list_all}
use Rattle.std.proofs.lemmas.Option.{none-some, same_Some}
use Rattle.icu_normalizer_core.specs.CanonicalWords.{items_at}
use Rattle.icu_collator_types.specs.declared.elements.Element.{Element}
use Rattle.icu_collator_types.specs.declared.elements.word_tags.Tag.TheVariants.{Expansion32, Expansion, Offset}
use Rattle.icu_collator_types.specs.ElementWords.{has_tag, self_contained}
use Rattle.icu_collator_core.specs.declared.tables.special_primaries.CollationSpecialPrimaries.{CollationSpecialPrimaries}
use Rattle.icu_collator_core.specs.Pools.{Pools, element_of, elements_of_word, expanded_elements, expanded_words, index_of, length_of, offset_primary, stated_element}
use Rattle.icu_collator_core.specs.TableMeaning.{is_primary_alone}
use Rattle.icu_collator_core.specs.WeightFaults.{are_sound_spelled, is_own_alone, is_primary_element, is_sound_offset, is_sound_spelled, is_sound_word, leads_of}
use Rattle.icu_collator_core.specs.WeightRules.{has_widths, is_letter_lead, is_sound_element, is_sound_primary, is_sound_ranged}
use Rattle.icu_collator_core.proofs.meaning.WordTagLemmas.{unranged}

-- ---- Numbers

-- all but the primary and the case are of their widths
abbrev pub is_narrow : Element → Bool
is_narrow e = ltb e.secondary (2 ^ 16) && (ltb e.tertiary (2 ^ 16) && leb e.quaternary 3)

element_narrow : (bits : ℕ) → is_narrow (element_of bits) ≡ true
element_narrow bits =
    and_from _ _ (lt-ltb (bits / 2 ^ 16 % 2 ^ 16) (2 ^ 16) (omega arith))
    (and_from _ _ (lt-ltb (bits / 2 ^ 8 % 2 ^ 6 * 2 ^ 8 + bits % 2 ^ 6) (2 ^ 16) (omega arith)) (le-leb (bits / 2 ^ 6 % 2 ^ 2) 3 (omega arith)))

stated_narrow : (word : ℕ) (e : Element) → stated_element word ≡ Some e → is_narrow e ≡ true
stated_narrow word e h = at (word == 0) (self_contained word) h
  where
    at : (zero : Bool) (bits : Option ℕ) → cond zero None (option_map element_of bits) ≡ Some e → is_narrow e ≡ true
    at true bits k = absurd (none-some e k)
    at false None k = absurd (none-some e k)
    at false (Some bits) k = ap is_narrow (sym (same_Some (element_of bits) e k)) ∙ element_narrow bits

more_narrow : (o : Option Element) (es : List Element) → ((e : Element) → o ≡ Some e → is_narrow e ≡ true) → list_all is_narrow es ≡ true
    → list_all is_narrow (cons_option o es) ≡ true
more_narrow None es first rest = rest
more_narrow (Some e) es first rest = and_from _ _ (first e refl) rest

words_narrow : (words : List ℕ) → list_all is_narrow (filter_map stated_element words) ≡ true
words_narrow [] = refl
words_narrow (word ∷ words) = more_narrow (stated_element word) (filter_map stated_element words) (stated_narrow word) (words_narrow words)

bits_narrow : (bits : List ℕ) → list_all is_narrow (map element_of bits) ≡ true
bits_narrow [] = refl
bits_narrow (b ∷ bits) = and_from _ _ (element_narrow b) (bits_narrow bits)

pub elements_narrow : (pools : Pools) (word : ℕ) (es : List Element) → elements_of_word pools word ≡ Some es → list_all is_narrow es ≡ true
unfolding elements_of_word
elements_narrow pools word es h = at (word == 0) (has_tag Expansion32 word) (has_tag Expansion word) (stated_element word) (stated_narrow word) h
  where
    from : (fs : List Element) → Some fs ≡ Some es → list_all is_narrow fs ≡ true → list_all is_narrow es ≡ true
    from fs same narrow = ap (list_all is_narrow) (sym (same_Some fs es same)) ∙ narrow

    at : (zero words elements : Bool) (stated : Option Element) → ((e : Element) → stated ≡ Some e → is_narrow e ≡ true)
        → cond zero (Some []) (cond words (Some (expanded_words pools word)) (cond elements (Some (expanded_elements pools word)) (option_map (λ e. e ∷ []) stated)))
        ≡ Some es → list_all is_narrow es ≡ true
    at true words elements stated narrow k = from [] k refl
    at false true elements stated narrow k = from (expanded_words pools word) k (words_narrow (items_at pools.ce32s (index_of word) (length_of word)))
    at false false true stated narrow k = from (expanded_elements pools word) k (bits_narrow (items_at pools.ces (index_of word) (length_of word)))
    at false false false None narrow k = absurd (none-some es k)
    at false false false (Some e) narrow k = from (e ∷ []) k (and_from _ _ (narrow e refl) refl)

-- an element of a list passes what all of it do
pub passes_in : (test : Element → Bool) (es : List Element) (e : Element) → list_all test es ≡ true → Contains es e → test e ≡ true
passes_in test es e all within = All-contains (λ x. test x ≡ true) es e (AllPass-from_list_all test es all) within

-- ---- Rules

module _ (special : CollationSpecialPrimaries) where
  -- a word that was found to keep the rules spells elements that do
  pub word_sound : (pools : Pools) (own : Option ℕ) (c word : ℕ) (es : List Element) → is_sound_word special pools own c word ≡ true
      → elements_of_word pools word ≡ Some es → are_sound_spelled special own es ≡ true
  unfolding is_sound_word
  word_sound pools own c word es sound h =
      sym
      (cond-false (has_tag Offset word) _ _ (unranged pools word es h)
      ∙ ap (λ (o : Option (List Element)). elim o as (λ _. Bool) [ Some fs ↦ are_sound_spelled special own fs | None ↦ true ]) h)
      ∙ sound

  -- in a context each of them is sound
  pub context_sound : (es : List Element) → are_sound_spelled special None es ≡ true → list_all (is_sound_spelled special) es ≡ true
  context_sound [] h = h
  context_sound (e ∷ []) h = h
  context_sound (e ∷ f ∷ es) h = h

  own_alone : (p : ℕ) (es : List Element) → is_own_alone (Some p) es ≡ is_primary_alone p es
  unfolding is_primary_element
  own_alone p [] = refl
  own_alone p (e ∷ []) = refl
  own_alone p (e ∷ f ∷ es) = refl

  -- and where nothing stands before or after, unless they are the character's own
  pub lone_sound : (p : ℕ) (es : List Element) → are_sound_spelled special (Some p) es ≡ true → is_primary_alone p es ≡ false
      → list_all (is_sound_spelled special) es ≡ true
  lone_sound p es h other =
      ⊎_elim (λ own. absurd (false≢true (sym (own_alone p es ∙ other) ∙ own))) (λ sound. sound)
      (or_cases (is_own_alone (Some p) es) (list_all (is_sound_spelled special) es) h)

  pub offset_sound : (pools : Pools) (own : Option ℕ) (c word : ℕ) → is_sound_word special pools own c word ≡ true → has_tag Offset word ≡ true
      → is_sound_ranged (leads_of special) (offset_primary (slice_index pools.ces (index_of word)) c) ≡ true
  unfolding is_sound_word is_sound_offset
  offset_sound pools own c word sound offset = (and_parts _ _ (sym (cond-true (has_tag Offset word) _ _ offset) ∙ sound)).1

  pub spelled_sound : (e : Element) → is_sound_spelled special e ≡ true → (leb e.case 2 ≡ true) × (is_sound_element (leads_of special) e ≡ true)
  unfolding is_sound_spelled
  spelled_sound e h = and_parts (leb e.case 2) (is_sound_element (leads_of special) e) h

  primary_width : (p : ℕ) → ((p == 0) || is_sound_primary (leads_of special) p) ≡ true → p < 2 ^ 32
  primary_width p h = by_kind (or_cases _ _ h)
    where
      led : is_letter_lead (p / 2 ^ 24) ≡ true → p < 2 ^ 32
      led letter = let high = leb-true (p / 2 ^ 24) 0xfc (and_parts (leb 0x03 (p / 2 ^ 24)) _ letter).1 in omega (arith, high)

      by_kind : ((p == 0) ≡ true) ⊎ (is_sound_primary (leads_of special) p ≡ true) → p < 2 ^ 32
      by_kind (inl none) = let zero = eqb-true p 0 none in omega (arith, zero)
      by_kind (inr sound) = led (and_parts _ _ (and_parts _ _ (and_parts _ _ (and_parts _ _ sound).0).0).0).0

  pub widths : (e : Element) → is_sound_spelled special e ≡ true → is_narrow e ≡ true → has_widths e ≡ true
  widths e sound narrow =
      let both = spelled_sound e sound
      in let primary = primary_width e.primary (and_parts _ _ (and_parts _ _ (and_parts _ _ both.1).0).0).1
      in let second = and_parts (ltb e.secondary (2 ^ 16)) _ narrow
      in let third = and_parts (ltb e.tertiary (2 ^ 16)) (leb e.quaternary 3) second.1
      in and_from _ _ (and_from _ _ (and_from _ _ (and_from _ _ (lt-ltb e.primary (2 ^ 32) primary) second.0) third.0) both.0) third.1
