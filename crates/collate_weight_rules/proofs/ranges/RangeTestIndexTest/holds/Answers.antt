use Rattle.std.proofs.Common.{◌+◌, ◌↔◌, List, map, subst, IsTrue}
use Rattle.collate_lines.specs.Record.{Record, said}
use Rattle.collate_rules.specs.GivenWeights.{BreakRanges}
use Rattle.collate_weight_rules.proofs.soundness.WeightRuleSaidLemmas.{said_to}
use Rattle.collate_weight_rules.proofs.ranges.RangeTestIndexTest.holds.Goals as goal

pub returns : goal.returns
returns c =
    subst (λ (lines : List Record). IsTrue c.in_ok-yes.yes ↔ BreakRanges (map said c.args.self.now.records.now) lines) (said_to c.args.self.now.records.now (c.args.index + 1))
    c.in_ok-yes.ensures
