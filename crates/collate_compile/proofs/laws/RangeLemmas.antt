-- The range of accepted lines that holds a character keeps the rule on ranges.
use Rattle.std.proofs.Common.{◌≡◌, ℕ, ◌^◌, ◌<◌, ◌≤◌, ◌⊎◌, inl, inr, Bool, true, false, cond, ◌==◌, ◌||◌, leb, ltb, List, [], ◌∷◌, Option, Some, None, refl, sym, ap, subst, ◌∙◌, arith, ⊎_elim}
use Rattle.std.specs.Option.{is_some, unwrap_or}
use Rattle.std.specs.List.{Contains}
use Rattle.std.proofs.lemmas.Bool.{and_parts, cond-true, leb-true, ltb-true, or_cases, or_right, true_from_ne_false, true≢false}
use Rattle.std.proofs.lemmas.List.Elements.{Contains-append_left, Contains-append_right}
use Rattle.std.proofs.lemmas.Option.{none-some}
use lib.Utf8.{scalar}
use Rattle.icu_normalizer_core.specs.BuiltIn.{is_jamo, is_within}
use Rattle.icu_normalizer_core.proofs.decoded.ScalarLemmas.{scalar_below}
use Rattle.icu_collator_core.specs.PlainLeads.{leads_alone}
use Rattle.icu_collator_core.specs.Weights.{Range}
use Rattle.icu_collator_core.specs.WeightRules.{is_sound_range, stays_in_lead}
use Rattle.icu_collator_core.proofs.apart.GrowthLemmas.{first_in}
use Rattle.collate_lines.specs.declared.rule.Rule.TheVariants.{V6}
use Rattle.collate_lines.specs.Record.{Record, nothing, class, mapping, compatibility, weights, range, digit, setting}
use Rattle.collate_rules.specs.Accepted.{AreAccepted}
use Rattle.collate_rules.specs.GivenWeights.{BreakRanges, are_sound_ranges, given_elements, given_ranges, leads_to, numeric_to, ranges_of}
use Rattle.collate_rules.specs.Meaning.{first_found, is_compressible_in, numeric_in, range_in, set_to, span_of, weights_of}
use Rattle.collate_rules.proofs.given.GivenListLemmas.{list_all_tells}
use Rattle.collate_rules.proofs.offenders.BreachLemmas.{none_together}
use Rattle.collate_compile.proofs.laws.OwnPrimaryLemmas.{jamo_bounds}

-- a line's range that holds a character
range_of_line : (c : ℕ) (line : Record) (r : Range) → range_in c line ≡ Some r
    → (is_within r.first r.last c ≡ true) × Contains (ranges_of line) r
range_of_line c (range t) r h = at (is_within t.first t.last c) refl h
  where
    at : (b : Bool) → is_within t.first t.last c ≡ b → cond b (Some (span_of t)) None ≡ Some r
        → (is_within r.first r.last c ≡ true) × Contains (span_of t ∷ []) r
    at true is e =
        let same : span_of t ≡ r = cc in
        subst (λ (s : Range). (is_within s.first s.last c ≡ true) × Contains (span_of t ∷ []) s) same
        (is, first_in (span_of t) [])
    at false is e = absurd (cc)
range_of_line c nothing r h = absurd (none-some r h)
range_of_line c (class d k) r h = absurd (none-some r h)
range_of_line c (mapping d ds x) r h = absurd (none-some r h)
range_of_line c (compatibility d ds) r h = absurd (none-some r h)
range_of_line c (weights layer prefix text es) r h = absurd (none-some r h)
range_of_line c (digit d v) r h = absurd (none-some r h)
range_of_line c (setting s) r h = absurd (none-some r h)

found_range : (c : ℕ) (lines : List Record) (r : Range) → first_found (range_in c) lines ≡ Some r
    → (is_within r.first r.last c ≡ true) × Contains (given_ranges lines) r
found_range c [] r h = absurd (none-some r h)
found_range c (line ∷ lines) r h = at (range_in c line) refl h (found_range c lines r)
  where
    at : (o : Option Range) → range_in c line ≡ o
        → (elim o [ Some s ↦ Some s | None ↦ first_found (range_in c) lines ]) ≡ Some r
        → (first_found (range_in c) lines ≡ Some r → (is_within r.first r.last c ≡ true) × Contains (given_ranges lines) r)
        → (is_within r.first r.last c ≡ true) × Contains (given_ranges (line ∷ lines)) r
    at (Some s) is e later =
        let told = range_of_line c line r (is ∙ e) in
        (told.0, Contains-append_left (ranges_of line) (given_ranges lines) r told.1)
    at None is e later =
        let told = later e in
        (told.0, Contains-append_right (ranges_of line) (given_ranges lines) r told.1)

-- leads alone are asked for
all_lead : (lines : List Record) → numeric_to lines lines ≡ set_to numeric_in 0x10 lines
all_lead lines = at (first_found numeric_in lines)
  where
    at : (o : Option ℕ) → cond ((unwrap_or o 0x10 == 0x10) || is_some o) (unwrap_or o 0x10) 0 ≡ unwrap_or o 0x10
    at None = refl
    at (Some lead) = cond-true _ lead 0 (or_right (lead == 0x10) true refl)

step_small : (step : ℕ) → is_within 1 127 step ≡ true → step < 2 ^ 7
step_small step h = let most = leb-true step 127 (and_parts (leb 1 step) (leb step 127) h).1 in omega (arith, most)

-- what a sound range holds, in parts
pub record IsSoundly (lines : List Record) (c : ℕ) (r : Range) : Type 0 where
  pub low : r.first ≤ c
  pub high : c ≤ r.last
  pub small : r.step < 2 ^ 7
  pub stays : stays_in_lead (weights_of lines) r ≡ true
  pub apart : (r.last < 0x1100) ⊎ (0x11ff < r.first)

module _ (lines : List Record) (accepted : AreAccepted lines) where
  ranges_sound : are_sound_ranges (leads_to lines lines) (given_ranges lines) (given_elements lines) ≡ true
  ranges_sound =
      true_from_ne_false _ (none_together (λ ls. BreakRanges lines ls) (λ e. true≢false e) lines (accepted.keep_rules V6))

  -- V6
  pub range_kept : (c : ℕ) (r : Range) → first_found (range_in c) lines ≡ Some r → IsSoundly lines c r
  range_kept c r h =
      let found = found_range c lines r h in
      let within = and_parts (leb r.first c) (leb c r.last) found.0 in
      let all = (and_parts _ _ (and_parts _ _ ranges_sound).0).0 in
      let by_leads = list_all_tells (is_sound_range (leads_to lines lines)) (given_ranges lines) all r found.1 in
      let whole : is_sound_range (weights_of lines) r ≡ true =
      sym (ap (λ (n : ℕ). is_sound_range (leads_alone (is_compressible_in lines) n) r) (all_lead lines)) ∙ by_leads in
      let seventh = and_parts _ _ whole in
      let sixth = and_parts _ _ seventh.0 in
      let fifth = and_parts _ _ sixth.0 in
      let fourth = and_parts _ _ fifth.0 in
      let third = and_parts _ _ fourth.0 in
      let second = and_parts _ _ third.0 in
      let small = step_small r.step second.1 in
      record {
        low = leb-true r.first c within.0;
        high = leb-true c r.last within.1;
        small = small;
        stays = sixth.1;
        apart = ⊎_elim (λ below. inl (ltb-true r.last 0x1100 below)) (λ above. inr (ltb-true 0x11ff r.first above))
            (or_cases (ltb r.last 0x1100) (ltb 0x11ff r.first) seventh.1);
      }

  -- no jamo is in a range
  pub jamo_unranged : (c : ℕ) → is_jamo c ≡ true → first_found (range_in c) lines ≡ None
  jamo_unranged c jamo = at (first_found (range_in c) lines) refl
    where
      at : (o : Option Range) → first_found (range_in c) lines ≡ o → o ≡ None
      at None is = refl
      at (Some r) is =
          let kept = range_kept c r is in
          let bounds = jamo_bounds c jamo in
          let low = kept.low in
          let high = kept.high in
          ⊎_elim
          (λ (below : r.last < 0x1100). absurd (omega (arith, below, high, bounds.0)))
          (λ (above : 0x11ff < r.first). absurd (omega (arith, above, low, bounds.1)))
          kept.apart

  -- and the first of a range of characters is below 2 ^ 24
  pub range_narrow : (c : ℕ) (r : Range) → scalar c ≡ true → first_found (range_in c) lines ≡ Some r → r.first < 2 ^ 24
  range_narrow c r s h = let low = (range_kept c r h).low in let below = scalar_below c s in omega (arith, low, below)
