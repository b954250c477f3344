use Rattle.std.proofs.Common.{subst}
use Rattle.icu_normalizer_core.specs.declared.canonical.tables.CanonicalTables.{CanonicalTables}
use Rattle.icu_normalizer_core.specs.Canonical.{IsCanonical}
use Rattle.icu_normalizer_core.specs.CanonicalMeaning.{lists_of, meaning}
use Rattle.icu_normalizer_core.proofs.accepted.AcceptedPairs.{canonical}
use Rattle.icu_normalizer_core.proofs.canonical.borrowed.CanonicalBorrowed.keep_promise.Goals as goal

pub returns : goal.returns
returns c =
    subst (λ (tables : CanonicalTables). IsCanonical (meaning tables)) c.tables-tables.ensures.same
    (canonical (lists_of c.tables-tables.result.now) c.tables-tables.ensures.accepted)
