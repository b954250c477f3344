use Rattle.icu_collator_core.proofs.readings.FlatReadLemmas.{all_read, more_read, nothing_read}
use Rattle.icu_collator_core.proofs.checked.CheckedTables.read_flat.Goals as goal

pub loop-c-init : goal.loop-c-init
loop-c-init g c =
    nothing_read c.args.self.now c.args.numeric g.I.Iterator.next_gives c.args.chars c.into_iter-c-iterator.result c.args.elements.now.items
    c.into_iter-c-iterator.ensures.into_iter_gives c.requires.empty

pub loop-c-preserved : goal.loop-c-preserved
loop-c-preserved g c =
    more_read c.args.self.now c.args.numeric g.I.Iterator.next_gives c.args.chars c.loop-c.c-iterator c.next.new.self c.loop-c.elements.items c.push_flat.new.elements.items
    c.loop-c.last c.in-Some-push_flat.class c.in-Some.c c.loop-c.invariant c.in-Some.ensures.steps
    c.in-Some-push_flat.ensures

pub returns : goal.returns
returns g c = λ _.
    all_read c.args.self.now c.args.numeric g.I.Iterator.next_gives c.args.chars c.loop-c.c-iterator c.next.new.self c.loop-c.elements.items
    c.loop-c.last c.loop-c.invariant c.in-None.ensures.steps
