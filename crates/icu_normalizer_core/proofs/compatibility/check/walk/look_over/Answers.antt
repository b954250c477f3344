use Rattle.std.proofs.Common.{rules}
use Rattle.icu_normalizer_core.proofs.compatible.HarmlessLemmas.{common_from}
use Rattle.icu_normalizer_core.proofs.compatibility.check.walk.look_over.Goals as goal

pub look_on-requires-clause-run : goal.look_on-requires-clause-run
look_on-requires-clause-run c =
    common_from c.args.tables.now c.args.words c.args.looked.code c.args.end c.loop-next.next.code c.requires.run c.loop-next.invariant.from (search rules)
