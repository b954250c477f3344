use Rattle.std.proofs.Common.{◌≡◌, ◌∙◌, subst, sym}
use Rattle.icu_normalizer_core.specs.CanonicalFaults.{IsAccepted}
use Rattle.icu_normalizer_core.specs.CanonicalLists.{CanonicalLists}
use Rattle.icu_normalizer_core.specs.CanonicalMeaning.{lists_of}
use Rattle.icu_normalizer_core.specs.CanonicalRefusals.{IsRefusal}
use Rattle.icu_normalizer_core.specs.declared.canonical.data.CanonicalDataError.{CanonicalDataError}
use Rattle.icu_normalizer_core.specs.declared.canonical.data.CanonicalDataError.TheVariants.{Fault}
use Rattle.icu_normalizer_core.specs.declared.canonical.tables.CanonicalFault.{CanonicalFault}
use Rattle.icu_normalizer_core.specs.declared.canonical.tables.CanonicalTables.{CanonicalTables}
use Rattle.icu_normalizer_core.proofs.building.BuiltTableLemmas.{fault_refutes}
use Rattle.collate_records.proofs.canonical_data.canonical_data.Goals as goal

pub returns-in-Ok : goal.returns-in-Ok
returns-in-Ok c = c.in-Ok.ensures.0 ∙ c.in_ok-copy.ensures

not_refused : (lists : CanonicalLists) (error : CanonicalDataError) (fault : CanonicalFault) → error ≡ Fault fault → IsRefusal lists error → IsAccepted lists → ⊥
not_refused lists error fault is refused accepted = fault_refutes lists fault (subst (IsRefusal lists) is refused) accepted

pub unreachable-requires : goal.unreachable-requires
unreachable-requires c =
    not_refused (lists_of c.in_ok-copy.copy) _ _ c.in-Err-Fault.field-0-is c.in-Err-Fault.ensures
    (subst (λ (tables : CanonicalTables). IsAccepted (lists_of tables)) (sym c.in_ok-copy.ensures) c.requires)
