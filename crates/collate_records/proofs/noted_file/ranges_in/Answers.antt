use Rattle.std.proofs.Common.{List, ◌++◌, ap, sym, ◌∙◌}
use Rattle.icu_collator_core.specs.Weights.{Range}
use Rattle.collate_lines.specs.Record.{said}
use Rattle.collate_rules.specs.GivenWeights.{ranges_of}
use Rattle.collate_compile.proofs.gathering.OwnLineLemmas.{ranges_more}
use Rattle.collate_records.proofs.noted_file.ranges_in.Goals as goal

pub loop-line-preserved : goal.loop-line-preserved
loop-line-preserved c =
    c.in_ok-note_range.ensures
    ∙ ap (λ (rs : List Range). rs ++ ranges_of (said c.line-item.result)) c.loop-line.invariant
    ∙ sym (ranges_more c.args.lines.now c.loop-line.line-index c.line-item.result c.loop-line-test.true c.line-item.is)
