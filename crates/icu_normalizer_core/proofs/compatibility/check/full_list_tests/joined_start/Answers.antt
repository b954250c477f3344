use Rattle.icu_normalizer_core.specs.Words.{word_lists, full_in}
use Rattle.icu_normalizer_core.proofs.full_lists.JoinedStartLemmas.{joined_more, joined_all}
use Rattle.icu_normalizer_core.proofs.compatibility.check.full_list_tests.joined_start.Goals as goal

pub loop-c-preserved : goal.loop-c-preserved
loop-c-preserved c =
    joined_more (full_in (word_lists c.args.words)) c.loop-c.left c.full_start.result c.joined-left.result c.in-Some.c c.loop-c.c-iterator c.next.new.self c.args.list
    c.loop-c.invariant c.in-Some.ensures.steps c.full_start.ensures c.joined-left.ensures

pub returns : goal.returns
returns c = joined_all (full_in (word_lists c.args.words)) c.loop-c.left c.loop-c.c-iterator c.args.list c.loop-c.invariant c.in-None.ensures.steps.0
