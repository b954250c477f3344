use Rattle.std.proofs.Common.{List, ℕ, Option, None, Some, subst, sym}
use Rattle.std.specs.Prelude.{IfSome}
use Rattle.std.proofs.lemmas.Bool.Decides.{Decides-eqb}
use Rattle.icu_collator.specs.Collators.{source_collation}
use Rattle.icu_collator.specs.CommonBoundaries.{AreElementsBehind}
use Rattle.icu_collator.specs.declared.compare.flat.Meeting.{Meeting}
use Rattle.icu_collator.proofs.orders.StretchedOrderLemmas.{Runs, run_decides, run_left, run_right}
use Rattle.icu_collator.proofs.compare.stretched.compare_stretched.Goals as goal

some_so : {X : Type 0} {P Q : X → Type 0} (o : Option X) → IfSome o P → ((x : X) → P x → Q x) → IfSome o Q
some_so None h f = tt
some_so (Some x) h f = f x h

pub returns-in-Parted : goal.returns-in-Parted
returns-in-Parted g c = λ a b ok also begins.
    let source = c.args.checked.now in
    let options = c.args.options.now in
    let at = c.args.boundary in
    run_decides source options g.I.Iterator.next_gives g.J.Iterator.next_gives at.left at.right c.race.new.lefts c.race.new.rights a b at.index ok also begins c.in-Parted.order
    (subst (λ (said : Meeting). Runs source options g.I.Iterator.next_gives g.J.Iterator.next_gives at.left at.right c.race.new.lefts c.race.new.rights said) c.in-Parted.is c.in_ok-order.ensures)

pub returns-in-BothEnd : goal.returns-in-BothEnd
returns-in-BothEnd g c =
    let source = c.args.checked.now in
    let options = c.args.options.now in
    let at = c.args.boundary in
    let runs = subst (λ (said : Meeting). Runs source options g.I.Iterator.next_gives g.J.Iterator.next_gives at.left at.right c.race.new.lefts c.race.new.rights said) c.in-BothEnd.is c.in_ok-order.ensures in
    some_so c.in_ok-answer-in-BothEnd.answer c.in_ok-answer-in-BothEnd.ensures
    (λ order said a b ok also begins.
    said begins.front a b (λ whole. begins.whole ((Decides-eqb at.index 0).0 whole))
    (subst (λ (xs : List ℕ). AreElementsBehind (source_collation source) options begins.front a xs) (sym c.settled.ensures)
    (run_left source options g.I.Iterator.next_gives g.J.Iterator.next_gives at.left at.right c.race.new.lefts c.race.new.rights a b at.index ok also begins runs))
    (subst (λ (xs : List ℕ). AreElementsBehind (source_collation source) options begins.front b xs) (sym c.settled-in-BothEnd.ensures)
    (run_right source options g.I.Iterator.next_gives g.J.Iterator.next_gives at.left at.right c.race.new.lefts c.race.new.rights a b at.index ok also begins runs)))
