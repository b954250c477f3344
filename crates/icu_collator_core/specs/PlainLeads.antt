-- What is said of lead bytes by themselves.
use Rattle.std.specs.Prelude.{ℕ, Bool, false, None, slice_index_or}
use Rattle.icu_collator_core.specs.declared.weight_rules.lead_bytes.Leads.{Leads}
use Rattle.icu_collator_core.specs.Weights.{Weights}

-- which leads are compressible, and which is that of numbers; nothing else is said
abbrev pub leads_alone : (ℕ → Bool) → ℕ → Weights
leads_alone is_compressible numeric_lead =
    record {
      recorded = λ prefix text. None;
      digit = λ c. None;
      ranged_primary = λ c. None;
      is_compressible = is_compressible;
      numeric_lead = numeric_lead;
      dot_above = false;
    }

-- what leads say
abbrev pub plain_leads : Leads → Weights
plain_leads leads = leads_alone (λ lead. slice_index_or leads.compressible lead false) leads.numeric
