use Rattle.icu_normalizer_core.proofs.settling.SettlingLemmas.{progress_made, progress_none}
use Rattle.icu_normalizer_core.proofs.canonical.check.settle.settle_once.Goals as goal
use Rattle.icu_normalizer_core.proofs.canonical.check.settle.settle_once.Goals.{then-settle_at, else-settle_at}

pub loop-index-preserved : goal.loop-index-preserved
loop-index-preserved c =
    elim c.if-settle_at.branch [
      | then-settle_at w ↦
          progress_made c.args.steps.now c.args.settled.now c.loop-index.settled c.settle_at.new.settled c.loop-index.more c.if-settle_at.more c.loop-index.index c.loop-index.invariant
          c.settle_at.ensures.starts (c.settle_at.ensures.progress w.if-settle_at.true) w.more-is
      | else-settle_at w ↦
          progress_none c.args.steps.now c.args.settled.now c.loop-index.settled c.settle_at.new.settled c.loop-index.more c.if-settle_at.more c.loop-index.index c.loop-index.invariant
          c.settle_at.ensures.starts (c.settle_at.ensures.same w.if-settle_at.false) (c.settle_at.ensures.stuck w.if-settle_at.false) w.more-is
    ]
