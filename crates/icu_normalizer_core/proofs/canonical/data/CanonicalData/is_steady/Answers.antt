use Rattle.std.proofs.Common.{subst}
use Rattle.icu_normalizer_core.specs.declared.canonical.tables.CanonicalTables.{CanonicalTables}
use Rattle.icu_normalizer_core.specs.Boundaries.{IsSteady}
use Rattle.icu_normalizer_core.specs.CanonicalMeaning.{meaning}
use Rattle.icu_normalizer_core.proofs.canonical.data.CanonicalData.is_steady.Goals as goal

pub returns : goal.returns
returns c = λ yes.
    subst (λ (tables : CanonicalTables). IsSteady (meaning tables) c.args.c) c.self.view_is
    (c.self.invariant.1 c.args.c c.ranges.c.0 (c.contains.ensures.0 yes))
