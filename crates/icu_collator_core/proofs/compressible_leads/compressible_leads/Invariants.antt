use Rattle.std.proofs.Common.{◌≡◌, ◌<◌, ℕ, false, get_or, length}
use Rattle.icu_collator_core.specs.TableSettings.{is_compressible_in}
use Rattle.icu_collator_core.proofs.compressible_leads.compressible_leads.Given as goal

abbrev pub invariant-loop-lead : goal.invariant-loop-lead
invariant-loop-lead l = record {
  count : length l.leads ≡ 256;
  told : (k : ℕ) → k < l.lead → get_or l.leads k false ≡ is_compressible_in l.special.last_primaries k;
}
