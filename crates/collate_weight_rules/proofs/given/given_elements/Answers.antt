use Rattle.std.proofs.Common.{◌++◌, sym, ap₂, ◌∙◌}
use Rattle.collate_rules.specs.GivenWeights.{elements_of}
use Rattle.collate_weight_rules.proofs.soundness.WeightRuleSaidLemmas.{given_more}
use Rattle.collate_weight_rules.proofs.given.given_elements.Goals as goal

pub loop-line-preserved : goal.loop-line-preserved
loop-line-preserved c =
    c.in_ok-extend_from_slice.ensures.items
    ∙ ap₂ (λ es fs. es ++ fs) c.loop-line.invariant c.elements_of.ensures
    ∙ sym (given_more elements_of c.args.lines.now c.loop-line.line-index c.line-item.result c.loop-line-test.true c.line-item.is)
