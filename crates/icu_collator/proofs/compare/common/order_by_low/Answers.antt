use Rattle.std.proofs.Common.{◌≡◌, ◌≤◌, ◌<◌, ℕ, true, Option, arith, refl, rules, subst}
use Rattle.std.proofs.lemmas.Bool.Decides.{nat_tests}
use Rattle.std.specs.Prelude.{◌≢◌}
use Rattle.std.specs.declared.cmp.Ordering.TheVariants.{Equal}
use Rattle.icu_normalizer_core.specs.Canonical.{IsDecomposing}
use Rattle.icu_collator_core.specs.ReadSources.{canonical_by}
use Rattle.icu_collator_core.specs.declared.flat.steps.FlatStep.TheVariants.{Primary}
use Rattle.icu_collator_core.proofs.readings.FlatStepLemmas.{next_primary, settled_small}
use Rattle.icu_collator.specs.FlatOrders.{does_count}
use Rattle.icu_collator.proofs.orders.CountedPrimaryLemmas.{counts_some}
use Rattle.icu_collator.proofs.orders.OrderByFlatLemmas.{meeting_decides, primary_counts}
use Rattle.icu_collator.proofs.compare.common.order_by_low.Goals as goal

pub returns : goal.returns
returns g c = λ numeric a b left_class right_class ok also alike.
    let source = c.args.checked.now in
    let low = c.peek_low-low.result in
    let other = c.peek_low-other.result in
    let p = c.boundary_primary-first.result in
    let q = c.boundary_primary-second.result in
    let first = c.next-first in
    let second = c.next-second in
    let order = c.order_of_primaries-order in
    let below : low < 0x80 = grind (arith, nat_tests) in
    let also_below : other < 0x80 = grind (arith, nat_tests) in
    let count : does_count c.args.end p ≡ true = search rules in
    let also_count : does_count c.args.end q ≡ true = search rules in
    let some = counts_some c.args.end p count in
    let also_some = counts_some c.args.end q also_count in
    let decomposing : IsDecomposing (canonical_by source) = search rules in
    let differs : order.result ≢ Equal = search rules in
    let small : 0 ≤ 255 = omega arith in
    let left_step = subst (λ it. g.I.Iterator.next_gives it first.result first.new.self) c.again-left.ensures first.ensures.steps in
    let right_step = subst (λ it. g.J.Iterator.next_gives it second.result second.new.self) c.again-right.ensures second.ensures.steps in
    let first_is = c.peek_low-low.ensures below first.result first.new.self left_step in
    let second_is = c.peek_low-other.ensures also_below second.result second.new.self right_step in
    let left_next =
    next_primary source numeric g.I.Iterator.next_gives a c.args.left.now first.new.self left_class low p 0 alike.0 alike.0 decomposing alike.2.left_read refl
    (subst (λ (next : Option ℕ). g.I.Iterator.next_gives c.args.left.now next first.new.self) first_is left_step)
    (c.boundary_primary-first.ensures some numeric left_class) some in
    let right_next =
    next_primary source numeric g.J.Iterator.next_gives b c.args.right.now second.new.self right_class other q 0 alike.1 alike.1 decomposing alike.2.right_read refl
    (subst (λ (next : Option ℕ). g.J.Iterator.next_gives c.args.right.now next second.new.self) second_is right_step)
    (c.boundary_primary-second.ensures also_some numeric right_class) also_some in
    meeting_decides source g.I.Iterator.next_gives g.J.Iterator.next_gives c.args.end numeric a b alike.0 alike.1 alike.2.same first.new.self second.new.self 0 0
    (Primary p) (Primary q) order.result (order.ensures, differs) left_next right_next (primary_counts c.args.end p count) (primary_counts c.args.end q also_count) (
      settled_small source numeric g.I.Iterator.next_gives a first.new.self 0 alike.0 (Primary p) small left_next,
      settled_small source numeric g.J.Iterator.next_gives b second.new.self 0 alike.1 (Primary q) small right_next,
    ) ok also
