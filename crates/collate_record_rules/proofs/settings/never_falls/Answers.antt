use Rattle.std.proofs.Common.{◌∙◌, drop, arith}
use Rattle.std.proofs.lemmas.List.{length-drop}
use Rattle.collate_record_rules.proofs.records.OrderedLemmas.{never_falls_short}
use Rattle.collate_record_rules.proofs.settings.never_falls.Goals as goal

pub returns : goal.returns
returns c =
    never_falls_short (drop c.loop-index.index c.args.groups.now) (omega (arith, length-drop c.loop-index.index c.args.groups.now, c.loop-index-test.false))
    ∙ c.loop-index.invariant.same
