use Rattle.std.proofs.Common.{◌≤◌, arith, subst, sym}
use Rattle.icu_collator_core.specs.FlatSteps.{IsNextPrimary}
use Rattle.icu_collator_core.proofs.readings.FlatStepLemmas.{settled_small}
use Rattle.icu_collator.proofs.compare.flat.meet_settled.Goals as goal

pub returns-then-right_class-lt256-clause-settled : goal.returns-then-right_class-lt256-clause-settled
returns-then-right_class-lt256-clause-settled g c = λ a b lefts rights one two.
    let source = c.args.checked.now in
    let numeric = c.args.numeric in
    let left : c.args.left_class ≤ 255 = omega arith in
    let right : c.args.right_class ≤ 255 = omega arith in (
      settled_small source numeric g.I.Iterator.next_gives a c.args.left.now c.args.left_class lefts c.args.first left one,
      settled_small source numeric g.J.Iterator.next_gives b c.args.right.now c.args.right_class rights c.args.second right two,
    )

pub returns-else-not-stands-clause-settled : goal.returns-else-not-stands-clause-settled
returns-else-not-stands-clause-settled g c = λ a b lefts rights one two.
    let source = c.args.checked.now in
    let numeric = c.args.numeric in
    c.part-stands.ensures c.if-not-stands.false a b lefts rights
    (subst (λ it. IsNextPrimary source numeric g.I.Iterator.next_gives a lefts c.args.first it c.args.left_class) (sym c.again.ensures) one)
    (subst (λ it. IsNextPrimary source numeric g.J.Iterator.next_gives b rights c.args.second it c.args.right_class) (sym c.again-in-Parted.ensures) two)
