-- Accepted lines in another order change nothing.
use Rattle.std.proofs.Common.{◌≡◌, ℕ, ◌+◌, ◌*◌, ◌/◌, ◌%◌, ◌^◌, true, false, cond, List, [], ◌∷◌, Option, sym, ap, arith}
use Rattle.std.specs.List.{list_all}
use Rattle.std.specs.List.Sorted.{IsPermutation}
use Rattle.std.specs.Option.{unwrap_or}
use Rattle.std.proofs.lemmas.Bool.{and_parts, false≢true, true_from_ne_false}
use Rattle.icu_normalizer_core.specs.BuiltIn.{built_in_class, built_in_step, is_built_in}
use Rattle.icu_collator_core.specs.Collation.{with_lead}
use Rattle.icu_collator_core.specs.WeightRules.{is_of_other_lead, is_sound_range}
use Rattle.collate_lines.specs.declared.rule.Rule.TheVariants.{V6, V14}
use Rattle.collate_lines.specs.Record.{Record}
use Rattle.collate_rules.specs.Accepted.{AreAccepted}
use Rattle.collate_rules.specs.GivenWeights.{are_all_disjoint, are_sound_ranges, given_elements, given_ranges, leads_to}
use Rattle.collate_rules.specs.Meaning.{class_in, digit_in, mapping_in, range_in, step_of}
use Rattle.collate_rules.proofs.offenders.BreachLemmas.{none_together}
use Rattle.collate_records.specs.Changes.{AreSettingsEqual, IsUnchanged, place_of}
use Rattle.collate_records.proofs.comparing.LineOrderLemmas.{recorded_alike, said_alike, same_settings, same_weights}
use Rattle.collate_records.proofs.comparing.OneLineLemmas.{class_second, digit_second, found_alike, mapping_second, range_once}

-- no two ranges share a character
ranges_apart : (records : List Record) → AreAccepted records → are_all_disjoint (given_ranges records) ≡ true
ranges_apart records accepted =
    let sound =
    true_from_ne_false _
    (none_together (λ lines. are_sound_ranges (leads_to records lines) (given_ranges lines) (given_elements lines) ≡ false)
    (λ e. false≢true (sym e)) records (accepted.keep_rules V6)) in
    let first = and_parts _ (list_all (λ s. list_all (is_of_other_lead s) (given_elements records)) (given_ranges records)) sound in
    (and_parts (list_all (is_sound_range (leads_to records records)) (given_ranges records)) (are_all_disjoint (given_ranges records)) first.0).1

-- two ways to exchange leads that agree on all primaries agree on each lead
cancelled : (x y rest : ℕ) → x * 2 ^ 24 + rest ≡ y * 2 ^ 24 + rest → x ≡ y
cancelled x y rest same = omega arith

leads_agree : (f g : ℕ → ℕ) → ((p : ℕ) → with_lead f p ≡ with_lead g p) → (lead : ℕ) → f lead ≡ g lead
leads_agree f g same lead =
    let back : lead * 2 ^ 24 / 2 ^ 24 ≡ lead = omega arith in
    let here : f lead * 2 ^ 24 + lead * 2 ^ 24 % 2 ^ 24 ≡ g lead * 2 ^ 24 + lead * 2 ^ 24 % 2 ^ 24 = rw back at (same (lead * 2 ^ 24)) in
    cancelled (f lead) (g lead) (lead * 2 ^ 24 % 2 ^ 24) here

module _ (a b : List Record) (accepted : AreAccepted a) (moved : IsPermutation a b) where
  pub moved_step : (c : ℕ) → step_of a c ≡ step_of b c
  moved_step c =
      ap (λ (o : Option (List ℕ)). cond (is_built_in c) (unwrap_or (built_in_step c) []) (unwrap_or o []))
      (said_alike a b moved (accepted.keep_rules V14) (mapping_in c) (mapping_second c))

  pub moved_unchanged : (c : ℕ) → IsUnchanged a b c
  moved_unchanged c = record {
    class = ap (λ (o : Option ℕ). unwrap_or (built_in_class c) (unwrap_or o 0)) (said_alike a b moved (accepted.keep_rules V14) (class_in c) (class_second c));
    mapping = moved_step c;
    weights = record {
      range = found_alike (range_in c) a b moved (range_once c a (ranges_apart a accepted));
      digit = said_alike a b moved (accepted.keep_rules V14) (digit_in c) (digit_second c);
      recorded = λ prefix rest. recorded_alike a b moved (accepted.keep_rules V14) prefix (c ∷ rest);
    };
  }

  pub moved_settings : AreSettingsEqual a b
  moved_settings =
      let settings = same_settings a b moved (accepted.keep_rules V14) in
      let weights = same_weights a b moved (accepted.keep_rules V14) (accepted.keep_rules V6) in
      record {
        values = record {
          options = settings.options;
          backward = settings.settings.backward;
          dot_above = weights.dot_above;
          numeric = weights.numeric_lead;
          groups = settings.settings.groups;
        };
        compressible = weights.is_compressible;
        reordered = leads_agree (place_of a) (place_of b) settings.settings.reordered;
      }
