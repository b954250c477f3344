-- What the words of the table of jamo state and mean.
use Rattle.std.proofs.Common.{◌≡◌, ℕ, ◌+◌, ◌-◌, ◌*◌, ◌%◌, ◌^◌, ◌<◌, true, false, cond, not, ◌==◌, List, [], ◌∷◌, Option, Some, None, refl, sym, ap, subst, ◌∙◌, arith}
use Rattle.std.specs.Prelude.{option_and_then, IsTrue, MatchOption}
use Rattle.std.specs.Option.{option_map, unwrap_or}
use Rattle.std.proofs.lemmas.Bool.{and_from, and_parts, cond-false, cond-true, eq-eqb, false≢true, le-leb, ne_eqb, not_from_true, or_left, or_right}
use lib.Utf8.{scalars}
use Rattle.icu_normalizer_core.specs.BuiltIn.{is_jamo}
use Rattle.icu_collator_types.specs.declared.elements.Element.{Element}
use Rattle.icu_collator_types.specs.declared.elements.word_tags.Tag.TheVariants.{Contraction, Digit, LongPrimary, LongSecondary, Offset, Prefix}
use Rattle.icu_collator_types.specs.ElementWords.{has_tag, is_special, self_contained}
use Rattle.icu_collator_core.specs.Defaults.{implicit_primary, jamo_primary, primary_element, range_primary, special_primary}
use Rattle.icu_collator_core.specs.Pools.{Pools, digit_value, element_of, elements_of_word, lone_word, prefix_word, stated_element, suffix_word, unprefixed_word}
use Rattle.icu_collator_core.specs.TableMeaning.{TableWord, is_primary_alone, own_primary, ranged_by, recorded_by, unless_own}
use Rattle.icu_collator_core.specs.WeightRules.{AreSoundWeights}
use Rattle.icu_collator_core.specs.Weights.{Range}
use Rattle.icu_collator_core.specs.WordForms.{has_form, states_element}
use Rattle.icu_collator_core.proofs.meaning.WordTagLemmas.{lone_same, no_tag, stated_elements, stated_tag, unprefixed_same}
use Rattle.collate_lines.specs.Record.{Record}
use Rattle.collate_rules.specs.Accepted.{AreAccepted}
use Rattle.collate_rules.specs.Meaning.{is_compressible_in, recorded_in, weights_of}
use Rattle.collate_rules.specs.RecordRules.{digit_of, is_alone}
use Rattle.collate_compile.specs.Compiled.{IsJamoWord, StatesAlone}
use Rattle.collate_compile.proofs.laws.MeaningLemmas.{Means, recorded_not_own}
use Rattle.collate_compile.proofs.laws.OwnPrimaryLemmas.{jamo_bounds}
use Rattle.collate_compile.proofs.laws.RangeLemmas.{jamo_unranged}
use Rattle.collate_compile.proofs.laws.RuleLemmas.{digit_may_be, jamo_alone, prefixed_alone}

-- ---- The word of a primary of three bytes

module _ (p : ℕ) (some : 0 < p) (low : p % 256 ≡ 0) where
  abbrev of_primary : ℕ
  of_primary = p + 0xc1

  special : is_special of_primary ≡ true
  special = le-leb 0xc0 (of_primary % 2 ^ 8) (omega (arith, low))

  first : (of_primary % 2 ^ 8 == 0xc1) ≡ true
  first = eq-eqb (of_primary % 2 ^ 8) 0xc1 (omega (arith, low))

  contained : self_contained of_primary ≡ Some (p * 2 ^ 32 + 0x500 * 2 ^ 16 + 0x500)
  contained =
      cond-false (has_tag LongSecondary of_primary) _ _
      (no_tag LongSecondary of_primary (λ same. omega (arith, same, low)))
      ∙ cond-true (is_special of_primary) _ _ special
      ∙ cond-true (of_primary % 2 ^ 8 == 0xc1) _ _ first
      ∙ ap (λ (n : ℕ). Some (n * 2 ^ 32 + 0x500 * 2 ^ 16 + 0x500)) (let back : of_primary - 0xc1 ≡ p = omega arith in back)

  build : (q s k t u : ℕ) → q ≡ p → s ≡ 0x500 → k ≡ 0 → t ≡ 0x500 → u ≡ 0
      → ◌≡◌ {A = Element} (record { primary = q; secondary = s; case = k; tertiary = t; quaternary = u }) (primary_element p)
  build q s k t u a b d f g = cc (a, b, d, f, g)

  pub primary_stated : stated_element of_primary ≡ Some (primary_element p)
  primary_stated =
      cond-false (of_primary == 0) _ _ (ne_eqb of_primary 0 (λ same. omega (arith, same)))
      ∙ ap (option_map element_of) contained
      ∙ ap (λ (e : Element). Some e)
      (build _ _ _ _ _ (omega arith) (omega arith) (omega arith) (omega arith) (omega arith))

  pub primary_states : states_element of_primary ≡ true
  primary_states =
      or_right (not (is_special of_primary)) _
      (or_left (has_form LongPrimary of_primary) (has_form LongSecondary of_primary)
      (and_from _ _ (le-leb (of_primary % 2 ^ 8) 0xcf (omega (arith, low)))
      (and_from _ _ special (eq-eqb (of_primary % 2 ^ 4) 1 (omega (arith, low))))))

-- ---- Jamo

jamo_parts : (c : ℕ) → is_jamo c ≡ true → (0 < jamo_primary c) × (jamo_primary c % 256 ≡ 0)
unfolding jamo_primary
jamo_parts c jamo =
    let bounds = jamo_bounds c jamo in (omega (arith, bounds.0, bounds.1), omega (arith, bounds.0, bounds.1))

jamo_unspecial : (c : ℕ) → is_jamo c ≡ true → special_primary c ≡ None
unfolding special_primary
jamo_unspecial c jamo =
    let bounds = jamo_bounds c jamo in
    let high = bounds.1 in
    cond-false (c == 0xfffe) _ _ (ne_eqb c 0xfffe (λ same. omega (arith, same, high)))
    ∙ cond-false (c == 0xfffd) _ _ (ne_eqb c 0xfffd (λ same. omega (arith, same, high)))
    ∙ cond-false (c == 0xffff) _ _ (ne_eqb c 0xffff (λ same. omega (arith, same, high)))

pub jamo_own : (c : ℕ) → is_jamo c ≡ true → own_primary c ≡ jamo_primary c
jamo_own c jamo =
    ap (λ (o : Option ℕ). unwrap_or o (cond (is_jamo c) (jamo_primary c) (implicit_primary c))) (jamo_unspecial c jamo)
    ∙ cond-true (is_jamo c) _ _ jamo

pub alone_itself : (p : ℕ) → is_primary_alone p (primary_element p ∷ []) ≡ true
alone_itself p = rw (eq-eqb p p refl) refl

-- the word of a jamo states one element: that of its record, or what the jamo is by itself
pub record StatesJamo (lines : List Record) (c word : ℕ) : Type 0 where
  pub element : Element
  pub stated : stated_element word ≡ Some element
  pub states : IsTrue (states_element word)
  pub told : MatchOption (recorded_in lines [] (c ∷ [])) (element ≡ primary_element (jamo_primary c)) (λ es. es ≡ element ∷ [])

pub jamo_stated : (lines : List Record) (c word : ℕ) → is_jamo c ≡ true → IsJamoWord lines c word
    → StatesJamo lines c word
jamo_stated lines c word jamo is = at (recorded_in lines [] (c ∷ [])) refl is.1
  where
    at : (o : Option (List Element)) → recorded_in lines [] (c ∷ []) ≡ o
        → MatchOption o (word ≡ jamo_primary c + 0xc1) (StatesAlone word)
        → StatesJamo lines c word
    at None none same =
        let parts = jamo_parts c jamo in
        record {
          element = primary_element (jamo_primary c);
          stated = ap stated_element same ∙ primary_stated (jamo_primary c) parts.0 parts.1;
          states = ap states_element same ∙ primary_states (jamo_primary c) parts.0 parts.1;
          told =
              subst (λ (o : Option (List Element)). MatchOption o (primary_element (jamo_primary c) ≡ primary_element (jamo_primary c)) (λ es. es ≡ primary_element (jamo_primary c) ∷ [])) (sym none) refl;
        }
    at (Some es) some stated = record {
      element = stated.0;
      stated = stated.3;
      states = stated.2;
      told =
          subst (λ (o : Option (List Element)). MatchOption o (stated.0 ≡ primary_element (jamo_primary c)) (λ fs. fs ≡ stated.0 ∷ [])) (sym some) stated.1;
    }

-- ---- What it means

module _
    (lines : List Record)
    (accepted : AreAccepted lines)
    (sound : AreSoundWeights (weights_of lines))
    (c : ℕ)
    (jamo : is_jamo c ≡ true)
    (entry : TableWord)
    (says : StatesJamo lines c entry.word) where
  abbrev pools : Pools
  pools = entry.pools

  abbrev word : ℕ
  word = entry.word

  no_prefix : has_tag Prefix word ≡ false
  no_prefix = stated_tag word says.element says.stated Prefix (omega arith)

  no_contraction : has_tag Contraction word ≡ false
  no_contraction = stated_tag word says.element says.stated Contraction (omega arith)

  no_digit : has_tag Digit word ≡ false
  no_digit = stated_tag word says.element says.stated Digit (omega arith)

  alone : lone_word pools word ≡ word
  alone = lone_same pools word no_prefix no_contraction no_digit

  by_itself : option_and_then (unless_own c) (elements_of_word pools (lone_word pools word)) ≡ recorded_in lines [] (c ∷ [])
  by_itself =
      ap (λ (w : ℕ). option_and_then (unless_own c) (elements_of_word pools w)) alone
      ∙ ap (option_and_then (unless_own c)) (stated_elements pools word says.element says.stated)
      ∙ at (recorded_in lines [] (c ∷ [])) refl says.told
    where
      at : (o : Option (List Element)) → recorded_in lines [] (c ∷ []) ≡ o
          → MatchOption o (says.element ≡ primary_element (jamo_primary c)) (λ es. es ≡ says.element ∷ [])
          → unless_own c (says.element ∷ []) ≡ o
      at None none same =
          cond-true (is_primary_alone (own_primary c) (says.element ∷ [])) None (Some (says.element ∷ []))
          (ap (λ (e : Element). is_primary_alone (own_primary c) (e ∷ [])) same
          ∙ ap (λ (p : ℕ). is_primary_alone p (primary_element (jamo_primary c) ∷ [])) (jamo_own c jamo)
          ∙ alone_itself (jamo_primary c))
      at (Some es) some same =
          cond-false (is_primary_alone (own_primary c) (says.element ∷ [])) None (Some (says.element ∷ []))
          (ap (is_primary_alone (own_primary c)) (sym same) ∙ recorded_not_own lines c [] (c ∷ []) es sound some)
          ∙ ap (λ (fs : List Element). Some fs) (sym same)

  no_suffix : (ds : List ℕ) → suffix_word pools word ds ≡ None
  unfolding suffix_word
  no_suffix ds =
      cond-false (has_tag Contraction (unprefixed_word pools word)) _ None
      (ap (has_tag Contraction) (unprefixed_same pools word no_prefix) ∙ no_contraction)

  no_context : (bs : List ℕ) → prefix_word pools word bs ≡ None
  unfolding prefix_word
  no_context bs = cond-false (has_tag Prefix word) _ None no_prefix

  -- nothing but the jamo alone is recorded
  unrecorded : (prefix cs : List ℕ) → is_alone prefix (c ∷ cs) ≡ false → recorded_in lines prefix (c ∷ cs) ≡ None
  unrecorded prefix cs longer = at (recorded_in lines prefix (c ∷ cs)) refl
    where
      at : (o : Option (List Element)) → recorded_in lines prefix (c ∷ cs) ≡ o → o ≡ None
      at None is = refl
      at (Some es) is = absurd (false≢true (sym longer ∙ jamo_alone lines accepted prefix c cs es jamo is))

  recorded_means : (prefix suffix : List ℕ) → scalars prefix ≡ true → scalars suffix ≡ true
      → recorded_by entry c prefix suffix ≡ recorded_in lines prefix (c ∷ suffix)
  unfolding recorded_by
  recorded_means [] [] p q = by_itself
  recorded_means [] (d ∷ ds) p q =
      ap (option_and_then (elements_of_word pools)) (no_suffix (d ∷ ds)) ∙ sym (unrecorded [] (d ∷ ds) refl)
  recorded_means (b ∷ bs) [] p q =
      ap (option_and_then (elements_of_word pools)) (no_context (b ∷ bs)) ∙ sym (unrecorded (b ∷ bs) [] refl)
  recorded_means (b ∷ bs) (d ∷ ds) p q = sym (prefixed_alone lines accepted b bs c d ds)

  undigital : digit_of lines c ≡ None
  undigital = at (digit_of lines c) refl
    where
      at : (o : Option ℕ) → digit_of lines c ≡ o → o ≡ None
      at None is = refl
      at (Some v) is =
          let may = and_parts _ _ (and_parts _ _ (digit_may_be lines accepted c v is)).1 in
          absurd (false≢true (sym (not_from_true (is_jamo c) jamo) ∙ may.0))

  ranged_means : ranged_by entry c ≡ (weights_of lines).ranged_primary c
  unfolding ranged_by
  ranged_means =
      cond-false (has_tag Offset (lone_word pools word)) _ None
      (ap (has_tag Offset) alone ∙ stated_tag word says.element says.stated Offset (omega arith))
      ∙ sym (ap (λ (o : Option Range). elim o as (λ _. Option ℕ) [ Some r ↦ Some (range_primary (is_compressible_in lines) r c) | None ↦ None ]) (jamo_unranged lines accepted c jamo))

  pub jamo_means : Means lines c entry
  jamo_means = record {
    recorded = recorded_means;
    digit = cond-false (has_tag Digit word) (Some (digit_value word)) None no_digit ∙ sym undigital;
    ranged = λ none. ranged_means;
  }
