use Rattle.icu_normalizer_core.specs.CanonicalMeaning.{meaning}
use Rattle.icu_normalizer_core.specs.SettledMappings.{steps_in}
use Rattle.icu_normalizer_core.proofs.building.SettledMappingLemmas.{settled_more, settled_none}
use Rattle.icu_normalizer_core.proofs.builder.mappings.Mappings.settle_once.Goals as goal
use Rattle.icu_normalizer_core.proofs.builder.mappings.Mappings.settle_once.Goals.{then-settle_at, else-settle_at}

pub loop-index-preserved : goal.loop-index-preserved
loop-index-preserved c =
    elim c.if-settle_at.branch [
      | then-settle_at w ↦
          settled_more (meaning c.args.self.tables.now).full (steps_in c.args.self) c.args.self.given.now c.args.settled.now c.loop-index.settled c.settle_at.new.settled c.loop-index.more c.if-settle_at.more
          c.loop-index.index c.loop-index.invariant c.settle_at.ensures.starts (c.settle_at.ensures.progress w.if-settle_at.true) w.more-is
      | else-settle_at w ↦
          settled_none (meaning c.args.self.tables.now).full (steps_in c.args.self) c.args.self.given.now c.args.settled.now c.loop-index.settled c.settle_at.new.settled c.loop-index.more c.if-settle_at.more
          c.loop-index.index c.loop-index.invariant c.settle_at.ensures.starts (c.settle_at.ensures.same w.if-settle_at.false) (c.settle_at.ensures.open w.if-settle_at.false) w.more-is
    ]
