use Rattle.std.proofs.Common.{arith}
use Rattle.icu_normalizer_core.proofs.decomposed_lists.RunLemmas.{marks_pushed}
use Rattle.icu_normalizer.specs.Writer.{writer_data}
use Rattle.icu_normalizer.proofs.decomposing.writer.Writer.hold_more.Goals as goal

pub invariant_of-self-clause-marks : goal.invariant_of-self-clause-marks
invariant_of-self-clause-marks c =
    let b = c.args.self.now in
    marks_pushed (writer_data b).class _ b.more.items 0 c.args.c _ c.push.ensures.items (omega arith) b.marks (omega (arith, c.requires.mark))
