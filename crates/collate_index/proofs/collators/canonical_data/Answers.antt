use Rattle.std.proofs.Common.{subst}
use Rattle.icu_normalizer_core.specs.CanonicalMeaning.{lists_of}
use Rattle.icu_normalizer_core.specs.CanonicalRefusals.{IsRefusal}
use Rattle.icu_normalizer_core.proofs.building.BuiltTableLemmas.{fault_refutes}
use Rattle.collate_index.proofs.collators.canonical_data.Goals as goal

pub unreachable-requires : goal.unreachable-requires
unreachable-requires c =
    fault_refutes (lists_of c.args.tables) c.in-Err-Fault.field-0-0
    (subst (IsRefusal (lists_of c.args.tables)) c.in-Err-Fault.field-0-is c.in-Err-Fault.ensures) c.requires
