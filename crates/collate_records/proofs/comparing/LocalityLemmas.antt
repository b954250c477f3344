-- What two files mean that say the same of the characters that a text reaches, and have equal settings.
use Rattle.std.proofs.Common.{◌≡◌, ℕ, ◌+◌, ◌*◌, ◌-◌, ◌/◌, ◌%◌, ◌^◌, Bool, List, ap, ◌∙◌, refl, Option, Some, None}
use Rattle.icu_normalizer_core.specs.Canonical.{Reaches}
use Rattle.icu_collator_core.specs.Defaults.{moved_primary, range_primary}
use Rattle.icu_collator_core.specs.SameSettings.{AreSameWithOptions}
use Rattle.icu_collator_core.specs.Sameness.{AreSameLeads, AreSameOf}
use Rattle.icu_collator_core.specs.Weights.{Range}
use Rattle.collate_lines.specs.Record.{Record}
use Rattle.collate_rules.specs.Meaning.{collation_of, first_found, is_compressible_in, range_in, step_of, weights_of}
use Rattle.collate_records.specs.Changes.{AreSettingsEqual, IsUnchanged}

module _ (a b : List Record) (settings : AreSettingsEqual a b) where
  moved_alike : (r : Range) (c : ℕ) → range_primary (is_compressible_in a) r c ≡ range_primary (is_compressible_in b) r c
  unfolding range_primary
  moved_alike r c = ap (λ (is : Bool). moved_primary is r.primary ((c - r.first) * r.step)) (settings.compressible (r.primary / 2 ^ 24))

  found_alike : (found : Option Range) (c : ℕ)
      → (elim found as (λ _. Option ℕ) [ Some r ↦ Some (range_primary (is_compressible_in a) r c) | None ↦ None ])
      ≡ (elim found as (λ _. Option ℕ) [ Some r ↦ Some (range_primary (is_compressible_in b) r c) | None ↦ None ])
  found_alike (Some r) c = ap (λ (p : ℕ). Some p) (moved_alike r c)
  found_alike None c = refl

  pub ranged_alike : (c : ℕ) → first_found (range_in c) a ≡ first_found (range_in c) b → (weights_of a).ranged_primary c ≡ (weights_of b).ranged_primary c
  ranged_alike c same =
      ap (λ (found : Option Range). elim found as (λ _. Option ℕ) [ Some r ↦ Some (range_primary (is_compressible_in a) r c) | None ↦ None ]) same
      ∙ found_alike (first_found (range_in c) b) c

  -- a text that reaches no changed character is read alike
  pub read_alike : (text : List ℕ) → ((c : ℕ) → Reaches (step_of a) text c → IsUnchanged a b c) → AreSameOf (collation_of a) (collation_of b) text
  read_alike text same =
      record {
        mappings = record { class = λ c r. (same c r).class; step = λ c r. (same c r).mapping };
        readings = record {
          recorded = λ prefix c rest p r rs. (same c r).weights.recorded prefix rest;
          digit = λ c r. (same c r).weights.digit;
          ranged_primary = λ c r none. ranged_alike c (same c r).weights.range;
          numeric_lead = settings.values.numeric;
          dot_above = settings.values.dot_above;
        };
      }

  -- the same leads are compressible
  pub leads_alike : AreSameLeads (weights_of a) (weights_of b)
  leads_alike = settings.compressible

  -- equal settings read, reorder and resolve alike
  pub settings_alike : AreSameWithOptions (collation_of a) (collation_of b)
  settings_alike =
      record {
        settings = record {
          reordered = λ p. ap (λ (lead : ℕ). lead * 2 ^ 24 + p % 2 ^ 24) (settings.reordered (p / 2 ^ 24));
          backward = settings.values.backward;
          groups = settings.values.groups;
        };
        options = settings.values.options;
      }
