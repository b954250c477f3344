use Rattle.std.proofs.Common.{None, Some, ap, subst, sym, ◌∙◌, ◌++◌, List, ℕ}
use Rattle.std.proofs.lemmas.List.Elements.{filter_map-append}
use Rattle.icu_collator_core.specs.FlatSteps.{primaries_in, primary_in}
use Rattle.icu_collator.specs.Aheads.{IsReadAhead}
use Rattle.icu_collator.proofs.orders.AheadLemmas.{hold, read_both, read_more}
use Rattle.icu_collator.proofs.compare.aheads.read_ahead.Goals as goal

pub returns-then-not-are_high_prefixed-clause-read : goal.returns-then-not-are_high_prefixed-clause-read
returns-then-not-are_high_prefixed-clause-read g c = λ t items h.
    let source = c.args.checked.now in
    let read = c.in_ok-read.read in
    let step = c.in_ok-read.ensures items in (
      step.0,
      subst (λ it. IsReadAhead source c.args.numeric g.I.Iterator.next_gives t None it read.class step.0) (sym c.again.ensures)
          (read_more source c.args.numeric g.I.Iterator.next_gives t c.args.chars.now c.args.c c.args.class items step.0 read h step.1),
      step.1.primaries,
    )

pub returns-in_default-clause-read : goal.returns-in_default-clause-read
returns-in_default-clause-read g c = λ t items h.
    let source = c.args.checked.now in
    let read = c.in_ok-read.read in
    let step = c.in_ok-read.ensures items in (
      step.0,
      subst (λ it. IsReadAhead source c.args.numeric g.I.Iterator.next_gives t None it read.class step.0) (sym c.again-in_default.ensures)
          (read_more source c.args.numeric g.I.Iterator.next_gives t c.args.chars.now c.args.c c.args.class items step.0 read h step.1),
      step.1.primaries,
    )

pub returns-in-Some-pair_primaries-clause-read : goal.returns-in-Some-pair_primaries-clause-read
returns-in-Some-pair_primaries-clause-read g c = λ t items h.
    let source = c.args.checked.now in
    let pair = c.in-Some-pair_primaries.ensures in
    let step = subst (λ it. g.I.Iterator.next_gives it (Some c.in-Some.next) c.next.new.self) c.again-rest.ensures c.in-Some.ensures.steps in (
      items ++ pair.items,
      read_both source c.args.numeric g.I.Iterator.next_gives t c.args.chars.now c.next.new.self c.args.c c.in-Some.next c.args.class items pair.items
          c.in-Some-pair_primaries.pair.class h step pair.pair,
      filter_map-append primary_in items pair.items ∙ ap (λ (ps : List ℕ). primaries_in items ++ ps) pair.primaries,
    )

pub returns-in-None-clause-read : goal.returns-in-None-clause-read
returns-in-None-clause-read g c = λ t items h.
    let source = c.args.checked.now in
    let read = c.in_ok-read.read in
    let told = c.in_ok-read.ensures items in
    let step = subst (λ it. g.I.Iterator.next_gives it (Some c.in-Some.next) c.next.new.self) c.again-rest.ensures c.in-Some.ensures.steps in (
      told.0,
      hold source c.args.numeric g.I.Iterator.next_gives t c.args.chars.now c.next.new.self c.in-Some.next read.class told.0
          (read_more source c.args.numeric g.I.Iterator.next_gives t c.args.chars.now c.args.c c.args.class items told.0 read h told.1) step,
      told.1.primaries,
    )

pub returns-then-not-may_join-clause-read : goal.returns-then-not-may_join-clause-read
returns-then-not-may_join-clause-read g c = λ t items h.
    let source = c.args.checked.now in
    let read = c.in_ok-read.read in
    let told = c.in_ok-read.ensures items in
    let step = subst (λ it. g.I.Iterator.next_gives it (Some c.in-Some.next) c.next.new.self) c.again-rest.ensures c.in-Some.ensures.steps in (
      told.0,
      hold source c.args.numeric g.I.Iterator.next_gives t c.args.chars.now c.next.new.self c.in-Some.next read.class told.0
          (read_more source c.args.numeric g.I.Iterator.next_gives t c.args.chars.now c.args.c c.args.class items told.0 read h told.1) step,
      told.1.primaries,
    )
