use Rattle.icu_normalizer_core.proofs.full_lists.FullStartLemmas.{gathered_more, gathered_all}
use Rattle.icu_normalizer_core.proofs.canonical.check.full_start.start_of.Goals as goal

pub loop-c-preserved : goal.loop-c-preserved
loop-c-preserved c =
    gathered_more c.loop-c.left c.with-left.result c.in-Some.c c.loop-c.c-iterator c.next.new.self c.args.list c.loop-c.invariant c.in-Some.ensures.steps c.with-left.ensures

pub returns : goal.returns
returns c = gathered_all c.loop-c.left c.loop-c.c-iterator c.args.list c.loop-c.invariant c.in-None.ensures.steps.0
