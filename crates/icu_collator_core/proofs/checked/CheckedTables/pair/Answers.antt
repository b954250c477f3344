use Rattle.std.proofs.Common.{subst}
use Rattle.icu_collator_core.specs.Acceptance.{CollationSource}
use Rattle.icu_collator_core.specs.Pairs.{IsPair, noted_elements}
use Rattle.icu_collator_core.proofs.checked.CheckedTables.pair.Goals as goal

pub returns : goal.returns
returns c =
    let source : CollationSource = c.self.inside.sound in
    let pair = c.in_ok-pair.pair.now in
    subst (λ (source : CollationSource). IsPair source c.args.first c.args.second (noted_elements pair) pair.trail) c.self.view_is
    (c.in_ok-pair.ensures source c.self.invariant.2)
