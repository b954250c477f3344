use Rattle.std.proofs.Common.{◌≡◌, ℕ, Some, rules, subst, sym}
use Rattle.icu_collator.proofs.orders.OrderByFlatLemmas.{pass_alike}
use Rattle.icu_collator.proofs.compare.common.pass_same.Goals as goal

pub returns-clause-alike : goal.returns-clause-alike
returns-clause-alike g c = λ end a b alike.
    let left = c.next.new.self in
    let right = c.next-2.new.self in
    let same : c.in_ok-first.first ≡ c.in_ok-second.second = search rules in
    pass_alike c.args.checked.now g.I.Iterator.next_gives g.J.Iterator.next_gives end c.args.numeric a b c.args.left.now left c.args.right.now right
    c.in_ok-first.first c.args.class c.in_ok-_primary._primary c.in_ok-_primary.trail alike
    (subst (λ it. g.I.Iterator.next_gives it (Some c.in_ok-first.first) left) c.again-left.ensures c.in_ok-first.ensures.steps)
    (subst (λ (d : ℕ). g.J.Iterator.next_gives c.args.right.now (Some d) right) (sym same)
    (subst (λ it. g.J.Iterator.next_gives it (Some c.in_ok-second.second) right) c.again-right.ensures c.in_ok-second.ensures.steps))
    c.in_ok-_primary.ensures
