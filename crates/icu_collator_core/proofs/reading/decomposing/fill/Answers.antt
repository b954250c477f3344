use Rattle.icu_normalizer_core.specs.BorrowedMeaning.{borrowed_meaning}
use Rattle.icu_collator_core.proofs.readings.DecomposingLemmas.{all_made, closed_scalars, more_made, nothing_made}
use Rattle.icu_collator_core.proofs.reading.decomposing.fill.Goals as goal

pub loop-c-init : goal.loop-c-init
loop-c-init g c =
    let given = c.into_iter-c-iterator.ensures.into_iter_gives in
    nothing_made g.I.Iterator.next_gives (borrowed_meaning c.args.canonical) c.args.chars c.into_iter-c-iterator.result c.args.list.now.items (cc) c.requires.empty

pub loop-c-preserved : goal.loop-c-preserved
loop-c-preserved g c =
    more_made g.I.Iterator.next_gives (borrowed_meaning c.args.canonical) c.args.chars c.loop-c.c-iterator c.next.new.self c.loop-c.list.items c.push_decomposed.new.list.items c.loop-c.ready
    c.in_ok-ready.ready c.in-Some.c c.loop-c.invariant c.in-Some.ensures.steps c.in_ok-ready.ensures

pub returns-clause-list : goal.returns-clause-list
returns-clause-list g c =
    all_made g.I.Iterator.next_gives (borrowed_meaning c.args.canonical) c.args.chars c.loop-c.c-iterator c.next.new.self c.loop-c.list.items c.close.new.list.items c.loop-c.ready
    c.loop-c.invariant c.in-None.ensures.steps c.in_ok-close.ensures

pub returns-clause-characters : goal.returns-clause-characters
returns-clause-characters g c =
    closed_scalars (borrowed_meaning c.args.canonical).class c.loop-c.list.items c.close.new.list.items c.loop-c.ready c.in_ok-close.ensures c.loop-c.invariant.characters
