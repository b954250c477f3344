use Rattle.std.proofs.Common.{◌≡◌, ◌∙◌, [], sym, append-nil, arith}
use Rattle.std.proofs.lemmas.Bool.{false≢true}
use Rattle.icu_collator_core.proofs.readings.UpcomingLemmas.{not_filled, pulled}
use Rattle.icu_collator_core.proofs.elements.upcoming.UpcomingIterator.next.Goals as goal

pub returns-in-None-clause-steps : goal.returns-in-None-clause-steps
returns-in-None-clause-steps g c =
    let empty : c.args.self.now.first.items ≡ [] = not_filled c.args.self.now.first.items (λ some. false≢true (c.in-None.ensures.variant.1 (omega (arith, some)))) in
    let left : c.pop.new.self.items ≡ [] = sym (append-nil c.pop.new.self.items) ∙ sym c.in-None.ensures.items ∙ empty in
    record {
      at = pulled g.I.Iterator.next_gives c.args.self.now _ c.pull.new.self c.pull.result empty left (λ rest h. h) c.pull.ensures.text;
      again = c.pull.ensures.ready;
    }
