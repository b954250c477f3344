use Rattle.std.proofs.Common.{◌∙◌, sym, subst}
use Rattle.icu_normalizer_core.specs.Iter.{Spells}
use Rattle.icu_collator.proofs.boundaries.PlaceLemmas.{search_anew, search_begins, search_goes_on, search_passes}
use Rattle.icu_collator.proofs.common_front.places.place_to_begin.Goals.{in-Open, in-GoesOn, in-Closed}
use Rattle.icu_collator.proofs.common_front.places.place_to_begin.Goals as goal

pub loop-c-init : goal.loop-c-init
loop-c-init g c = λ text h.
    let steps = g.I.Iterator.next_gives in
    search_begins steps (g.T.PassageTest.passes c.args.test.now) (g.T.PassageTest.goes_on c.args.test.now) text c.args.common _
    (subst (λ s. Spells steps s text) (sym c.into_iter-c-iterator.ensures.into_iter_gives) h)

pub loop-c-preserved : goal.loop-c-preserved
loop-c-preserved g c = λ text h.
    let steps = g.I.Iterator.next_gives in
    let Passes = g.T.PassageTest.passes c.args.test.now in
    let Goes = g.T.PassageTest.goes_on c.args.test.now in
    let so = c.loop-c.invariant text h in
    let it = c.loop-c.c-iterator in
    let next = c.next.new.self in
    elim c.match-passage_at.branch [
      | in-Open w ↦
          rw (w.earlier-is, w.latest-is)
          (search_passes steps Passes Goes text c.args.common c.loop-c.index c.loop-c.read c.loop-c.earlier c.loop-c.latest c.in-Some.c it next so c.in-Some.ensures.steps
          (c.passage_at.ensures.open w.in-Open.is) c.if-read-common.false c.match-passage_at.index (w.index-is ∙ w.unwrap_or-index.ensures))
      | in-GoesOn w ↦
          rw (w.index-is, w.earlier-is, w.latest-is)
          (search_goes_on steps Passes Goes text c.args.common c.loop-c.index c.loop-c.read c.loop-c.earlier c.loop-c.latest c.in-Some.c it next so c.in-Some.ensures.steps
          (c.passage_at.ensures.goes_on w.in-GoesOn.is))
      | in-Closed w ↦
          rw (w.index-is, w.earlier-is, w.latest-is)
          (search_anew steps Passes Goes text c.args.common c.loop-c.index c.loop-c.read c.loop-c.earlier c.loop-c.latest c.in-Some.c it next so c.in-Some.ensures.steps)
    ]

pub returns : goal.returns
returns g c = λ text h. (c.loop-c.invariant text h).is_index
