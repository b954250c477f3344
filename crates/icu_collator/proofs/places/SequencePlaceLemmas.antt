-- Single elements and whole numbers, one after another, stand at their places.
use Rattle.std.proofs.Common.{◌≡◌, ◌≢◌, ℕ, ◌<◌, ◌≤◌, ◌+◌, ◌*◌, ◌-◌, ◌/◌, ◌%◌, ◌^◌, Bool, true, false, cond, List, [], ◌∷◌, Option, None, Some, length, refl, sym, ◌∙◌, ap, subst, arith, inl, inr, ⊎_elim}
use Rattle.std.proofs.lemmas.Bool.{cases_lt}
use Rattle.std.proofs.lemmas.Bool.Decides.{nat_tests}
use mathlib.Core.Bool.{true≢false}
use Rattle.std.specs.Prelude.{◌==◌}
use Rattle.std.specs.Option.{unwrap_or}
use Rattle.icu_normalizer_core.specs.BuiltIn.{is_jamo}
use Rattle.icu_collator_types.specs.declared.elements.Element.{Element}
use Rattle.icu_collator_core.specs.Weights.{Weights}
use Rattle.icu_collator_core.specs.Collation.{Collation}
use Rattle.icu_collator_core.specs.Defaults.{primary_of, primary_element, special_primary, jamo_primary, implicit_primary, default_primary, default_elements}
use Rattle.icu_collator_core.specs.Numbers.{without_last_zeros}
use Rattle.icu_collator_core.specs.SoundElements.{IsSingle, of_record, by_default, IsSoundSequence, nothing, single, number}
use Rattle.std.proofs.lemmas.List.Elements.{recursion_from_All}
use Rattle.icu_collator_core.specs.WeightRules.{AreSoundWeights, IsRecorded, primary_bytes, is_letter_lead, is_sound_primary, has_three_bytes}
use Rattle.icu_collator.specs.Settings.{AreSoundSettings}
use Rattle.icu_collator.proofs.keys.CommonAloneLemmas.{and_true}
use Rattle.icu_collator.proofs.keys.WeightBytesLemmas.{rest_two, rest_three}
use Rattle.icu_collator.proofs.places.PrimaryPlaceLemmas.{Place, outside, place_behind, IsLetter, fixed, recorded_lead, within_bounds, or_second, fixed_length, letters_three, three_bytes_long, sound_primary}
use Rattle.icu_collator.proofs.places.NumberPlaceLemmas.{IsElement, element_behind, Reaches, reaches_both, number_reaches}

pub untested : (a b : ℕ) → a ≢ b → (a == b) ≡ false
untested a b h = grind (arith, nat_tests)

some_same : {a b : ℕ} → Some a ≡ Some b → a ≡ b
some_same {a} {b} h = let same : Some a ≡ Some b = h in cc

module _ (collation : Collation) (sound : AreSoundWeights collation.weights) (settings : AreSoundSettings collation) (numeric_on : Bool) where
  abbrev weights : Weights
  weights = collation.weights

  numeric_bounds : (3 ≤ weights.numeric_lead) × (weights.numeric_lead ≤ 0xfc)
  numeric_bounds = within_bounds 3 0xfc weights.numeric_lead settings.numeric_lead

  -- elements that stand where letters do, one after another
  abbrev pub StandOutside : List Element → Type 0
  StandOutside es = Reaches weights sound numeric_on outside es outside

  stays : (e : Element) → e.primary / 2 ^ 24 ≢ weights.numeric_lead → element_behind weights sound numeric_on outside e ≡ outside
  stays e h = ap (λ is. place_behind is (e.primary) outside) (untested _ _ h)

  stand_before : (e : Element) (es : List Element) → IsElement weights sound numeric_on outside e → e.primary / 2 ^ 24 ≢ weights.numeric_lead → StandOutside es → StandOutside (e ∷ es)
  stand_before e es is h later = (is, subst (λ (s : Place). Reaches weights sound numeric_on s es outside) (sym (stays e h)) later)

  -- ---- records

  recorded_differs : (e : Element) → IsRecorded weights e → e.primary / 2 ^ 24 ≢ weights.numeric_lead
  recorded_differs e is =
      ⊎_elim (λ h k. (recorded_lead weights sound numeric_on e is (λ zero_primary. omega (arith, h, zero_primary))).1 k)
      (λ h k. let low = numeric_bounds in omega (arith, h, k, low.0))
      (cases_lt 0 (e.primary))

  -- ---- characters without a record

  own_stands : (p : ℕ) → IsLetter weights p → p / 2 ^ 24 ≢ weights.numeric_lead → StandOutside (primary_element p ∷ [])
  own_stands p is h = stand_before (primary_element p) [] (inr (p, inl is, refl)) h refl

  not_compressible : (lead : ℕ) → is_letter_lead lead ≡ false → lead ≢ 0xfe → weights.is_compressible lead ≡ true → ⊥
  not_compressible lead h k is = true≢false (sym (or_second (is_letter_lead lead) (lead == 0xfe) h (settings.compressible lead is)) ∙ untested lead 0xfe k)

  -- a primary with a lead outside of letters
  outside_letters : (p : ℕ) → is_letter_lead (p / 2 ^ 24) ≡ false → p / 2 ^ 24 ≢ weights.numeric_lead
  outside_letters p h e = true≢false (sym settings.numeric_lead ∙ ap is_letter_lead (sym e) ∙ h)

  special_is : (p : ℕ) → is_letter_lead (p / 2 ^ 24) ≡ false → p / 2 ^ 24 ≢ 0xfe → length (primary_bytes p) ≡ fixed_length (p / 2 ^ 24) → 2 ≤ p / 2 ^ 24 → p < 2 ^ 32 → StandOutside (primary_element p ∷ [])
  special_is p h k wide low small =
      own_stands p (fixed p (inl h) wide low small (outside_letters p h) (λ is. absurd (not_compressible (p / 2 ^ 24) h k is))) (outside_letters p h)

  special_stands : (c p : ℕ) → special_primary c ≡ Some p → StandOutside (primary_element p ∷ [])
  unfolding special_primary without_last_zeros
  special_stands c p h = by_tests (c == 0xfffe) (c == 0xfffd) (c == 0xffff) h
    where
      by_tests : (a b d : Bool) → cond a (Some 0x02000000) (cond b (Some 0xfffd0000) (cond d (Some 0xffff0000) None)) ≡ Some p → StandOutside (primary_element p ∷ [])
      by_tests true b d k = let e : 0x02000000 ≡ p = some_same k in subst (λ (q : ℕ). StandOutside (primary_element q ∷ [])) e (special_is 0x02000000 refl (omega arith) refl (omega arith) (omega arith))
      by_tests false true d k = let e : 0xfffd0000 ≡ p = some_same k in subst (λ (q : ℕ). StandOutside (primary_element q ∷ [])) e (special_is 0xfffd0000 refl (omega arith) refl (omega arith) (omega arith))
      by_tests false false true k = let e : 0xffff0000 ≡ p = some_same k in subst (λ (q : ℕ). StandOutside (primary_element q ∷ [])) e (special_is 0xffff0000 refl (omega arith) refl (omega arith) (omega arith))
      by_tests false false false k = let never : ◌≡◌ {A = Option ℕ} None (Some p) = k in cc

  lead_of : (lead a b c : ℕ) → a < 256 → b < 256 → c < 256 → primary_of lead a b c / 2 ^ 24 ≡ lead
  lead_of lead a b c ha hb hc = omega (arith, ha, hb, hc)

  second_of : (lead a b c : ℕ) → a < 256 → b < 256 → c < 256 → primary_of lead a b c / 2 ^ 16 % 256 ≡ a
  second_of lead a b c ha hb hc = omega (arith, ha, hb, hc)

  third_of : (lead a b c : ℕ) → a < 256 → b < 256 → c < 256 → primary_of lead a b c / 2 ^ 8 % 256 ≡ b
  third_of lead a b c ha hb hc = omega (arith, ha, hb, hc)

  fourth_of : (lead a b c : ℕ) → a < 256 → b < 256 → c < 256 → primary_of lead a b c % 256 ≡ c
  fourth_of lead a b c ha hb hc = omega (arith, ha, hb, hc)

  small_of : (lead a b c : ℕ) → lead < 256 → a < 256 → b < 256 → c < 256 → primary_of lead a b c < 2 ^ 32
  small_of lead a b c hl ha hb hc = omega (arith, hl, ha, hb, hc)

  three_long : (lead a b : ℕ) → a < 256 → b < 256 → 0 < b → length (primary_bytes (primary_of lead a b 0)) ≡ 3
  three_long lead a b ha hb some = rw (second_of lead a b 0 ha hb (omega arith), third_of lead a b 0 ha hb (omega arith), fourth_of lead a b 0 ha hb (omega arith), rest_two a b some) refl

  four_long : (lead a b c : ℕ) → a < 256 → b < 256 → c < 256 → 0 < c → length (primary_bytes (primary_of lead a b c)) ≡ 4
  four_long lead a b c ha hb hc some = rw (second_of lead a b c ha hb hc, third_of lead a b c ha hb hc, fourth_of lead a b c ha hb hc, rest_three a b c some) refl

  jamo_stands : (c : ℕ) → is_jamo c ≡ true → StandOutside (primary_element (jamo_primary c) ∷ [])
  unfolding jamo_primary
  jamo_stands c is = at (c - 0x1100) (grind (arith, nat_tests))
    where
      at : (i : ℕ) → i < 256 → StandOutside (primary_element (primary_of 0xfd (4 + i / 128) (2 + i % 128) 0) ∷ [])
      at i h =
          let lead = lead_of 0xfd (4 + i / 128) (2 + i % 128) 0 (omega (arith, h)) (omega arith) (omega arith) in
          special_is (primary_of 0xfd (4 + i / 128) (2 + i % 128) 0) (rw lead refl) (λ e. omega (arith, e, lead))
          (three_long 0xfd (4 + i / 128) (2 + i % 128) (omega (arith, h)) (omega arith) (omega arith) ∙ ap fixed_length (sym lead))
          (omega (arith, lead)) (small_of 0xfd (4 + i / 128) (2 + i % 128) 0 (omega arith) (omega (arith, h)) (omega arith) (omega arith))

  implicit_stands : (c : ℕ) → StandOutside (primary_element (implicit_primary c) ∷ [])
  unfolding implicit_primary
  implicit_stands c = at (4 + (c + 1) / 18 / 254 % 251) (2 + (c + 1) / 18 % 254) (2 + (c + 1) % 18 * 14) (omega arith) (omega arith) (omega arith) (omega arith) (omega arith)
    where
      at : (a b d : ℕ) → 4 ≤ a → a ≤ 0xfe → b < 256 → d < 256 → 0 < d → StandOutside (primary_element (primary_of 0xfe a b d) ∷ [])
      at a b d low high hb hd some =
          let lead : primary_of 0xfe a b d / 2 ^ 24 ≡ 0xfe = lead_of 0xfe a b d (omega (arith, high)) hb hd in
          let none : is_letter_lead (primary_of 0xfe a b d / 2 ^ 24) ≡ false = rw lead refl in
          let same : primary_of 0xfe a b d / 2 ^ 16 % 256 ≡ a = second_of 0xfe a b d (omega (arith, high)) hb hd in
          own_stands (primary_of 0xfe a b d)
          (fixed (primary_of 0xfe a b d) (inl none) (four_long 0xfe a b d (omega (arith, high)) hb hd some ∙ ap fixed_length (sym lead)) (omega (arith, lead)) (small_of 0xfe a b d (omega arith) (omega (arith, high)) hb hd)
          (outside_letters _ none) (λ is. (omega (arith, same, low), omega (arith, same, high))))
          (outside_letters _ none)

  ranged_stands : (c p : ℕ) → weights.ranged_primary c ≡ Some p → StandOutside (primary_element p ∷ [])
  ranged_stands c p h =
      let both = and_true (is_sound_primary weights p) (has_three_bytes p) (sound.ranged c p h) in
      let parts = sound_primary weights p both.0 in
      let letter = parts.letter in
      let bounds = within_bounds 3 0xfc (p / 2 ^ 24) letter in
      own_stands p
      (fixed p (inr (c, p, h, refl)) (three_bytes_long p both.1 ∙ sym (letters_three (p / 2 ^ 24) letter)) (omega (arith, bounds.0)) (omega (arith, bounds.1)) parts.differs parts.room)
      parts.differs

  default_stands : (c : ℕ) → StandOutside (default_elements weights c)
  unfolding default_primary
  default_stands c = by_special (special_primary c) refl
    where
      unranged : (b : Bool) → is_jamo c ≡ b → StandOutside (primary_element (cond b (jamo_primary c) (implicit_primary c)) ∷ [])
      unranged true is = jamo_stands c is
      unranged false is = implicit_stands c

      by_range : (r : Option ℕ) → weights.ranged_primary c ≡ r → StandOutside (primary_element (unwrap_or r (cond (is_jamo c) (jamo_primary c) (implicit_primary c))) ∷ [])
      by_range (Some p) h = ranged_stands c p h
      by_range None h = unranged (is_jamo c) refl

      by_special : (s : Option ℕ) → special_primary c ≡ s → StandOutside (primary_element (unwrap_or s (unwrap_or (weights.ranged_primary c) (cond (is_jamo c) (jamo_primary c) (implicit_primary c)))) ∷ [])
      by_special (Some p) h = special_stands c p h
      by_special None h = by_range (weights.ranged_primary c) refl

  -- ---- sequences

  single_stands : (e : Element) (es : List Element) → IsSingle weights e → StandOutside es → StandOutside (e ∷ es)
  single_stands e es (of_record d is) later = stand_before d es (inl (refl, is)) (recorded_differs d is) later
  single_stands e es (by_default c scalar) later = reaches_both weights sound numeric_on outside outside outside (default_elements weights c) es (default_stands c) later

  -- such a sequence stands at its places
  pub sequence_stands : (es : List Element) → IsSoundSequence weights numeric_on es → StandOutside es
  sequence_stands es nothing = refl
  sequence_stands es (single e ds is later) = single_stands e ds is (sequence_stands ds later)
  sequence_stands es (number digits ds on are later) =
      let bounds = numeric_bounds
      in reaches_both weights sound numeric_on outside outside outside _ ds
      (number_reaches weights sound numeric_on on (omega (arith, bounds.1)) digits (recursion_from_All (λ d. d ≤ 9) digits are.up_to_nine)) (sequence_stands ds later)
