use Rattle.std.proofs.Common.{◌≡◌, ℕ, ◌==◌, ◌||◌, take}
use Rattle.std.specs.List.{list_any}
use Rattle.icu_collator_core.specs.PlainLeads.{plain_leads}
use Rattle.collate_weight_rules.proofs.leads.leads_to.Given as goal

abbrev pub invariant-loop-lead : goal.invariant-loop-lead
invariant-loop-lead l = record {
  numeric : (plain_leads l.leads).numeric_lead ≡ (plain_leads l.initial.leads).numeric_lead;
  compressible : (lead : ℕ) → (plain_leads l.leads).is_compressible lead
      ≡ ((lead == 0xfe) || list_any (λ other. other == lead) (take l.lead-index l.lead-items));
}
