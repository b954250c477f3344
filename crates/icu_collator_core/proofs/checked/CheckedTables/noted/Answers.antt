use Rattle.std.proofs.Common.{subst}
use Rattle.icu_collator_core.specs.CompressibleLeads.{AreCompressibleLeads}
use Rattle.icu_collator_core.specs.declared.tables.CollationTables.{CollationTables}
use Rattle.icu_collator_core.proofs.checked.CheckedTables.noted.Goals as goal

pub invariant_of-result : goal.invariant_of-result
invariant_of-result c =
    let compressible = c.compressible_leads-compressible.result in
    let leads =
    subst (λ (tables : CollationTables). AreCompressibleLeads tables.special_primaries.last_primaries compressible) c.tables.ensures c.compressible_leads-compressible.ensures in
    (c.in_ok-low.ensures, c.in_ok-pages.ensures, c.in_ok-pairs.ensures, leads)
