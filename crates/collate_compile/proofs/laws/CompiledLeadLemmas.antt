-- Rules on weights ask of leads alone, which tables and their lines tell alike.
use Rattle.std.proofs.Common.{◌≡◌, ℕ, ◌+◌, ◌-◌, ◌*◌, ◌/◌, ◌%◌, ◌^◌, ◌<◌, ◌≤◌, Bool, true, not, ◌==◌, ◌&&◌, ◌||◌, leb, List, Option, Some, None, refl, sym, ap, ◌∙◌, arith}
use Rattle.std.specs.List.{Contains, list_all}
use Rattle.std.specs.Option.{option_map}
use Rattle.std.proofs.Math.Nat.{mul-le-mul_right}
use Rattle.std.proofs.lemmas.Bool.{and_from, and_parts, le-leb, lt-ltb, ltb-true}
use lib.Utf8.{scalar}
use Rattle.icu_normalizer_core.specs.BuiltIn.{is_within}
use Rattle.icu_collator_types.specs.declared.elements.Element.{Element}
use Rattle.icu_collator_core.specs.declared.tables.special_primaries.CollationSpecialPrimaries.{CollationSpecialPrimaries}
use Rattle.icu_collator_core.specs.Defaults.{range_primary}
use Rattle.icu_collator_core.specs.WeightFaults.{is_sound_offset, is_sound_spelled, keeps_lead, leads_of, moved_by}
use Rattle.icu_collator_core.specs.WeightRules.{AreSoundWeights, IsRecorded, are_inner_bytes, has_three_bytes, is_empty, is_letter_lead, is_sound_element, is_sound_kind, is_sound_primary, is_sound_ranged, is_sound_secondary, is_sound_tertiary, lowest_second, primary_rest, second_count}
use Rattle.icu_collator_core.specs.Weights.{Range}
use Rattle.collate_lines.specs.Record.{Record}
use Rattle.collate_rules.specs.Accepted.{AreAccepted}
use Rattle.collate_rules.specs.Meaning.{first_found, is_compressible_in, range_in, weights_of}
use Rattle.collate_rules.proofs.given.GivenListLemmas.{list_all_from}
use Rattle.collate_compile.specs.Compiled.{ArePrimariesOf}
use Rattle.collate_compile.specs.LineSayings.{offset_bits, offset_of}
use Rattle.collate_compile.proofs.laws.OffsetLemmas.{compressible_part, first_part, offset_moved, primary_part, range_moved_by}
use Rattle.collate_compile.proofs.laws.RangeLemmas.{range_kept, range_narrow}

-- a primary keeps V2, by the lead of numbers and whether its own is compressible
abbrev primary_by : ℕ → Bool → ℕ → Bool
primary_by numeric compressible p =
    is_letter_lead (p / 2 ^ 24)
    && not (p / 2 ^ 24 == numeric)
    && not (is_empty (primary_rest p))
    && are_inner_bytes (primary_rest p)
    && (not compressible || is_within 0x04 0xfe (p / 2 ^ 16 % 256))

module _ (lines : List Record) (special : CollationSpecialPrimaries) (alike : ArePrimariesOf lines special) where
  pub primary_alike : (p : ℕ) → is_sound_primary (leads_of special) p ≡ is_sound_primary (weights_of lines) p
  primary_alike p =
      ap (λ (n : ℕ). primary_by n ((leads_of special).is_compressible (p / 2 ^ 24)) p) alike.numeric
      ∙ ap (λ (b : Bool). primary_by (weights_of lines).numeric_lead b p) (alike.compressible (p / 2 ^ 24))

  pub ranged_alike : (p : ℕ) → is_sound_ranged (leads_of special) p ≡ is_sound_ranged (weights_of lines) p
  ranged_alike p = ap (λ (b : Bool). b && has_three_bytes p) (primary_alike p)

  pub element_alike : (e : Element) → is_sound_element (leads_of special) e ≡ is_sound_element (weights_of lines) e
  element_alike e =
      ap
      (λ (b : Bool). is_sound_kind e && ((e.primary == 0) || b) && ((e.secondary == 0) || is_sound_secondary e.secondary)
      && ((e.tertiary == 0) || is_sound_tertiary e.tertiary))
      (primary_alike e.primary)

  module _ (sound : AreSoundWeights (weights_of lines)) where
    -- a recorded element keeps the rules, as tables tell leads
    pub recorded_spelled : (e : Element) → IsRecorded (weights_of lines) e → is_sound_spelled special e ≡ true
    unfolding is_sound_spelled
    recorded_spelled e is =
        let fourth = and_parts _ _ (sound.widths e is) in
        let third = and_parts _ _ fourth.0 in
        and_from (leb e.case 2) (is_sound_element (leads_of special) e) third.1 (element_alike e ∙ sound.elements e is)

    -- recorded elements do
    pub all_spelled : (es : List Element) → ((e : Element) → Contains es e → IsRecorded (weights_of lines) e)
        → list_all (is_sound_spelled special) es ≡ true
    all_spelled es recorded =
        list_all_from (is_sound_spelled special) es (λ e within. recorded_spelled e (recorded e within))

    -- what moves the primary of a range to its characters keeps the rules
    module _ (accepted : AreAccepted lines) (c : ℕ) (s : scalar c ≡ true) where
      second_less : (n d x y z k : ℕ) → z ≤ y → n - d + (x - 2 + y) / 254 < k → n - d + (x - 2 + z) / 254 < k
      second_less n d x y z k less high = omega (arith, less, high)

      kept_lead : (b : Bool) (p by to : ℕ) → by ≤ to → keeps_lead b p to ≡ true → keeps_lead b p by ≡ true
      kept_lead b p by to less h =
          lt-ltb _ _
          (second_less (p / 2 ^ 16 % 256) (lowest_second b) (p / 2 ^ 8 % 256) to by (second_count b) less
          (ltb-true _ _ h))

      of_range : (r : Range) → first_found (range_in c) lines ≡ Some r
          → is_sound_offset special (offset_bits (is_compressible_in lines) r) c ≡ true
      unfolding is_sound_offset
      of_range r is =
          let k = is_compressible_in lines in
          let kept = range_kept lines accepted c r is in
          let small = kept.small in
          let narrow = range_narrow lines accepted c r s is in
          let bits = offset_bits k r in
          let compressible = k (r.primary / 2 ^ 24) in
          let low = kept.low in
          let high = kept.high in
          let near : c - r.first ≤ r.last - r.first = omega (arith, low, high) in
          let by : (c - r.first) * r.step ≤ (r.last - r.first) * r.step = mul-le-mul_right r.step near in
          and_from _ _
          (and_from _ _
          (ap (λ (n : ℕ). leb n c) (first_part r.primary r.first r.step compressible narrow small)
          ∙ le-leb r.first c low)
          (ap (λ (b : Bool). keeps_lead b (bits / 2 ^ 32) (moved_by bits c))
          (compressible_part r.primary r.first r.step compressible narrow small)
          ∙ ap (λ (n : ℕ). keeps_lead compressible n (moved_by bits c))
          (primary_part r.primary r.first r.step compressible narrow small)
          ∙ ap (keeps_lead compressible r.primary) (range_moved_by k r narrow small c)
          ∙ kept_lead compressible r.primary ((c - r.first) * r.step) ((r.last - r.first) * r.step) by kept.stays))
          (ap (is_sound_ranged (leads_of special)) (offset_moved k r narrow small c)
          ∙ ranged_alike (range_primary k r c)
          ∙ sound.ranged c (range_primary k r c)
          (ap (λ (o : Option Range). elim o as (λ _. Option ℕ) [ Some r ↦ Some (range_primary (is_compressible_in lines) r c) | None ↦ None ]) is))

      pub offset_sound : (bits : ℕ) → offset_of lines c ≡ Some bits → is_sound_offset special bits c ≡ true
      offset_sound bits h = at (first_found (range_in c) lines) refl h
        where
          at : (o : Option Range) → first_found (range_in c) lines ≡ o
              → option_map (offset_bits (is_compressible_in lines)) o ≡ Some bits
              → is_sound_offset special bits c ≡ true
          at None is told = absurd (cc)
          at (Some r) is told =
              let same : offset_bits (is_compressible_in lines) r ≡ bits = cc in
              ap (λ (n : ℕ). is_sound_offset special n c) (sym same) ∙ of_range r is
