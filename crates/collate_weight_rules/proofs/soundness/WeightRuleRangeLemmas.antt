-- What is sound by more leads is sound by fewer.
use Rattle.std.proofs.Common.{◌≡◌, ⊎_elim, ℕ, ◌+◌, ◌-◌, ◌*◌, ◌/◌, ◌%◌, ◌^◌, Bool, true, false, not, ◌==◌, ◌&&◌, ◌||◌, leb, ltb, List, [], ◌∷◌, ◌++◌, refl, sym, ◌∙◌, subst, arith}
use Rattle.std.specs.List.{list_all}
use Rattle.std.proofs.lemmas.Bool.{and_from, and_parts, false≢true, false_from_ne_true, leb-true, lt-ltb, ltb-true, ne_eqb, not-true, not_from_false, or_cases, or_left, or_right}
use Rattle.icu_normalizer_core.specs.BuiltIn.{is_within}
use Rattle.icu_collator_types.specs.declared.elements.Element.{Element}
use Rattle.icu_collator_core.specs.Weights.{Range, Weights}
use Rattle.icu_collator_core.specs.WeightRules.{are_disjoint, are_inner_bytes, is_empty, is_letter_lead, is_of_other_lead, is_sound_primary, is_sound_range, lowest_second, primary_rest, second_count, stays_in_lead}
use Rattle.collate_rules.specs.GivenWeights.{are_all_disjoint, are_sound_ranges, has_sound_primary}
use Rattle.collate_rules.proofs.given.GivenListLemmas.{list_all_front}
use Rattle.collate_weight_rules.proofs.soundness.WeightRuleLeadLemmas.{TellFewer}

-- how far the second byte of a range's last primary lies from the lowest
abbrev last_second : Bool → ℕ → ℕ → ℕ
last_second compressible second thirds = second - lowest_second compressible + thirds

-- there is more room under a lead that isn't compressible
more_room : (few many : Bool) (second thirds : ℕ) → (few ≡ true → many ≡ true)
    → ltb (last_second many second thirds) (second_count many) ≡ true → ltb (last_second few second thirds) (second_count few) ≡ true
more_room true true second thirds less h = h
more_room true false second thirds less h = absurd (false≢true (less refl))
more_room false true second thirds less h = let lt = ltb-true _ _ h in lt-ltb _ _ (omega (arith, lt))
more_room false false second thirds less h = h

module _ (leads more : Weights) (fewer : TellFewer leads more) where
  -- a lead that letters may have isn't that of numbers, if that is none so far
  other_lead : (lead : ℕ) → is_letter_lead lead ≡ true → not (lead == more.numeric_lead) ≡ true → not (lead == leads.numeric_lead) ≡ true
  other_lead lead letter other =
      ⊎_elim
      (λ same. subst (λ n. not (lead == n) ≡ true) (sym same) other)
      (λ none. subst (λ n. not (lead == n) ≡ true) (sym none)
      (let low = leb-true _ _ (and_parts (leb 0x03 lead) (leb lead 0xfc) letter).0 in
      not_from_false (lead == 0) (ne_eqb lead 0 (λ zero. omega (arith, low, zero)))))
      fewer.numeric

  pub primary_stays : (p : ℕ) → is_sound_primary more p ≡ true → is_sound_primary leads p ≡ true
  primary_stays p h =
      let lead = p / 2 ^ 24 in
      let within = is_within 0x04 0xfe (p / 2 ^ 16 % 256) in
      let fifth = and_parts _ (not (more.is_compressible lead) || within) h in
      let fourth = and_parts _ (are_inner_bytes (primary_rest p)) fifth.0 in
      let third = and_parts _ (not (is_empty (primary_rest p))) fourth.0 in
      let second = and_parts (is_letter_lead lead) (not (lead == more.numeric_lead)) third.0 in
      and_from _ (not (leads.is_compressible lead) || within)
      (and_from _ (are_inner_bytes (primary_rest p))
      (and_from _ (not (is_empty (primary_rest p)))
      (and_from (is_letter_lead lead) (not (lead == leads.numeric_lead)) second.0 (other_lead lead second.0 second.1))
      third.1)
      fourth.1)
      (⊎_elim
      (λ plain.
      or_left (not (leads.is_compressible lead)) within
      (not_from_false _ (false_from_ne_true _ (λ c. false≢true (sym (not-true _ plain) ∙ fewer.compressible lead c)))))
      (λ inside. or_right (not (leads.is_compressible lead)) within inside)
      (or_cases (not (more.is_compressible lead)) within fifth.1))

  pub has_primary_stays : (e : Element) → has_sound_primary more e ≡ true → has_sound_primary leads e ≡ true
  has_primary_stays e h =
      ⊎_elim (λ none. or_left (e.primary == 0) _ none) (λ sound. or_right (e.primary == 0) _ (primary_stays e.primary sound))
      (or_cases (e.primary == 0) (is_sound_primary more e.primary) h)

  lead_stays : (r : Range) → stays_in_lead more r ≡ true → stays_in_lead leads r ≡ true
  lead_stays r h =
      let lead = r.primary / 2 ^ 24 in
      let thirds = (r.primary / 2 ^ 8 % 256 - 2 + (r.last - r.first) * r.step) / 254 in
      more_room (leads.is_compressible lead) (more.is_compressible lead) (r.primary / 2 ^ 16 % 256) thirds (fewer.compressible lead) h

  range_stays : (r : Range) → is_sound_range more r ≡ true → is_sound_range leads r ≡ true
  range_stays r h =
      let jamo = ltb r.last 0x1100 || ltb 0x11ff r.first in
      let seventh = and_parts _ jamo h in
      let sixth = and_parts _ (stays_in_lead more r) seventh.0 in
      let fifth = and_parts _ (leb 2 (r.primary / 2 ^ 8 % 256)) sixth.0 in
      let fourth = and_parts _ (r.primary % 256 == 0) fifth.0 in
      let third = and_parts _ (is_sound_primary more r.primary) fourth.0 in
      and_from _ jamo
      (and_from _ (stays_in_lead leads r)
      (and_from _ (leb 2 (r.primary / 2 ^ 8 % 256))
      (and_from _ (r.primary % 256 == 0)
      (and_from _ (is_sound_primary leads r.primary) third.0 (primary_stays r.primary third.1))
      fourth.1)
      fifth.1)
      (lead_stays r sixth.1))
      seventh.1

  pub ranges_stay : (rs more_ranges : List Range) (es fs : List Element)
      → are_sound_ranges more (rs ++ more_ranges) (es ++ fs) ≡ true → are_sound_ranges leads rs es ≡ true
  ranges_stay rs more_ranges es fs h =
      let others = list_all (λ r. list_all (is_of_other_lead r) (es ++ fs)) (rs ++ more_ranges) in
      let third = and_parts (list_all (is_sound_range more) (rs ++ more_ranges) && are_all_disjoint (rs ++ more_ranges)) others h in
      let second = and_parts (list_all (is_sound_range more) (rs ++ more_ranges)) (are_all_disjoint (rs ++ more_ranges)) third.0 in
      and_from (list_all (is_sound_range leads) rs && are_all_disjoint rs) (list_all (λ r. list_all (is_of_other_lead r) es) rs)
      (and_from (list_all (is_sound_range leads) rs) (are_all_disjoint rs)
      (list_all_front (is_sound_range more) (is_sound_range leads) range_stays rs more_ranges second.0)
      (disjoint_front rs second.1))
      (list_all_front (λ r. list_all (is_of_other_lead r) (es ++ fs)) (λ r. list_all (is_of_other_lead r) es)
      (λ r all. list_all_front (is_of_other_lead r) (is_of_other_lead r) (λ e k. k) es fs all) rs more_ranges third.1)
    where
      disjoint_front : (rs : List Range) → are_all_disjoint (rs ++ more_ranges) ≡ true → are_all_disjoint rs ≡ true
      disjoint_front [] k = refl
      disjoint_front (r ∷ rs) k =
          let both = and_parts (list_all (are_disjoint r) (rs ++ more_ranges)) (are_all_disjoint (rs ++ more_ranges)) k in
          and_from (list_all (are_disjoint r) rs) (are_all_disjoint rs)
          (list_all_front (are_disjoint r) (are_disjoint r) (λ s d. d) rs more_ranges both.0) (disjoint_front rs both.1)
