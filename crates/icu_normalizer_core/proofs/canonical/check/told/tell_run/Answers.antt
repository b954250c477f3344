use Rattle.std.proofs.Common.{rules}
use Rattle.icu_normalizer_core.proofs.faults.ToldLemmas.{run_from}
use Rattle.icu_normalizer_core.proofs.canonical.check.told.tell_run.Goals as goal

pub tell_next-requires-clause-run : goal.tell_next-requires-clause-run
tell_next-requires-clause-run c =
    run_from c.args.tables.now c.args.reached.code c.args.end c.loop-next.next.code c.args.end c.requires.run c.loop-next.invariant.from (search rules) (search rules)
