use Rattle.std.proofs.Common.{arith}
use Rattle.icu_collator_core.proofs.weights.LeadLemmas.{one_set}
use Rattle.icu_collator_core.proofs.weight_rules.lead_bytes.Leads.new.Goals as goal

pub returns-clause-compressible : goal.returns-clause-compressible
returns-clause-compressible c = λ lead. one_set 256 254 lead (omega arith)
