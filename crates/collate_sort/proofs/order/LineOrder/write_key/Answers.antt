use Rattle.std.proofs.Common.{◌++◌, ◌∙◌, List, ℕ, ap}
use Rattle.collate_sort.proofs.OrderLemmas.{lent_key}
use Rattle.collate_sort.proofs.order.LineOrder.write_key.Goals as goal

pub returns-in-Ok : goal.returns-in-Ok
returns-in-Ok c =
    c.in-Ok.ensures.written
    ∙ ap (λ (key : List ℕ). c.args.key.now.items ++ key)
    (lent_key c.self.inside c.self.invariant c.args.self.now c.self.view_is c.as_borrowed-collator.result
    c.as_borrowed-collator.ensures.source c.as_borrowed-collator.ensures.options c.args.text.now)
