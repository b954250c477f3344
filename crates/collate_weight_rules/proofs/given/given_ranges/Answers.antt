use Rattle.std.proofs.Common.{◌++◌, ap, sym, ◌∙◌}
use Rattle.collate_lines.specs.Record.{said}
use Rattle.collate_rules.specs.GivenWeights.{ranges_of}
use Rattle.collate_weight_rules.proofs.soundness.WeightRuleSaidLemmas.{given_more}
use Rattle.collate_weight_rules.proofs.given.given_ranges.Goals as goal

pub loop-line-preserved : goal.loop-line-preserved
loop-line-preserved c =
    c.in_ok-push_range.ensures
    ∙ ap (λ rs. rs ++ ranges_of (said c.line-item.result)) c.loop-line.invariant
    ∙ sym (given_more ranges_of c.args.lines.now c.loop-line.line-index c.line-item.result c.loop-line-test.true c.line-item.is)
