use Rattle.std.proofs.Common.{subst}
use Rattle.icu_normalizer_core.specs.Boundaries.{IsSteady}
use Rattle.icu_normalizer_core.specs.CompatibilityMeaning.{CompatibilityTables, compatibility_meaning}
use Rattle.icu_normalizer_core.proofs.compatibility.data.CompatibilityData.is_steady.Goals as goal

pub returns : goal.returns
returns c = λ yes.
    subst (λ (tables : CompatibilityTables). IsSteady (compatibility_meaning tables) c.args.c) c.self.view_is
    (c.self.invariant.2 c.args.c c.ranges.c.0 (c.contains.ensures.0 yes))
