use Rattle.icu_collator.proofs.orders.OrderByFlatLemmas.{begin_alike}
use Rattle.icu_collator.proofs.compare.flat.by_characters.Goals as goal

pub returns-in-Some : goal.returns-in-Some
returns-in-Some g c = λ a b ok also spelled others.
    c.in-Some.ensures c.args.numeric a b _ _ ok also
    (c.pass_low-left.ensures.alike c.args.numeric c.args.end a b
    (begin_alike c.args.checked.now g.I.Iterator.next_gives g.J.Iterator.next_gives c.args.end c.args.numeric a b c.args.left c.args.right spelled others))

pub returns : goal.returns
returns g c = λ a b ok also spelled others.
    c.by_further_characters.ensures a b ok also
    (c.pass_low-left.ensures.alike c.args.numeric c.args.end a b
    (begin_alike c.args.checked.now g.I.Iterator.next_gives g.J.Iterator.next_gives c.args.end c.args.numeric a b c.args.left c.args.right spelled others))
