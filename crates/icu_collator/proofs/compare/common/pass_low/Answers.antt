use Rattle.std.proofs.Common.{◌≡◌, ◌<◌, ◌==◌, ◌∙◌, ℕ, false, Option, Some, ap, arith, subst, sym}
use Rattle.std.proofs.lemmas.Bool.Decides.{nat_tests}
use Rattle.std.specs.Prelude.{OnSome}
use Rattle.std.specs.Iterator.{IsNearerEnd}
use Rattle.icu_collator.proofs.orders.OrderByFlatLemmas.{pass_alike}
use Rattle.icu_collator.proofs.compare.common.pass_low.Goals as goal

pub common-init : goal.common-init
common-init g c = record {
  left_can = c.requires.left;
  left_ends = c.requires.left_ends;
  left_nearer = omega arith;
  right_can = c.requires.right;
  right_ends = c.requires.right_ends;
  alike = λ numeric end a b h. h;
}

pub common-preserved : goal.common-preserved
common-preserved g c =
    let source = c.args.checked.now in
    let low = c.peek_low-low.result in
    let p = c.boundary_primary.result in
    let first = c.next-first in
    let second = c.next-second in
    let below : low < 0x80 = grind (arith, nat_tests) in
    let same : c.peek_low.result ≡ low = grind (arith, nat_tests) in
    let some : (p == 0) ≡ false = grind (arith, nat_tests) in
    let first_is = c.peek_low-low.ensures below first.result first.new.self first.ensures.steps in
    let second_is = c.peek_low.ensures (subst (λ (n : ℕ). n < 0x80) (sym same) below) second.result second.new.self second.ensures.steps ∙ ap Some same in
    let left_on = subst (λ (next : Option ℕ). OnSome next (IsNearerEnd g.I.Iterator.can_next g.I.Iterator.remaining c.common.left first.new.self)) first_is
    (first.ensures.goes.on c.common.invariant.left_ends) in
    let right_on = subst (λ (next : Option ℕ). OnSome next (IsNearerEnd g.J.Iterator.can_next g.J.Iterator.remaining c.common.right second.new.self)) second_is
    (second.ensures.goes.on c.common.invariant.right_ends) in
    record {
      left_can = left_on.0;
      left_ends = left_on.1;
      left_nearer = omega (arith, c.common.invariant.left_nearer, left_on.2);
      right_can = right_on.0;
      right_ends = right_on.1;
      alike = λ numeric end a b h.
          pass_alike source g.I.Iterator.next_gives g.J.Iterator.next_gives end numeric a b c.common.left first.new.self c.common.right second.new.self low c.common.class p 0
          (c.common.invariant.alike numeric end a b h)
          (subst (λ (next : Option ℕ). g.I.Iterator.next_gives c.common.left next first.new.self) first_is first.ensures.steps)
          (subst (λ (next : Option ℕ). g.J.Iterator.next_gives c.common.right next second.new.self) second_is second.ensures.steps)
          (c.boundary_primary.ensures some numeric c.common.class);
    }
