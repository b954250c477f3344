use Rattle.std.proofs.Common.{◌≡◌, ℕ, arith, subst}
use Rattle.std.proofs.lemmas.Bool.Decides.{nat_tests}
use Rattle.icu_collator.specs.FlatOrders.{AreAlikeSoFar}
use Rattle.icu_collator.proofs.compare.common.pass_common.Goals as goal

pub common-init : goal.common-init
common-init g c =
    let same : c.args.right_class ≡ c.args.left_class = grind (arith, nat_tests) in
    record {
      left_can = c.requires.left;
      left_ends = c.requires.left_ends;
      left_nearer = omega arith;
      right_can = c.requires.right;
      right_ends = c.requires.right_ends;
      alike = λ end a b h.
          subst (λ (n : ℕ). AreAlikeSoFar c.args.checked.now end c.args.numeric g.I.Iterator.next_gives g.J.Iterator.next_gives a b c.args.left c.args.right c.args.left_class n) same h;
    }

pub common-preserved : goal.common-preserved
common-preserved g c =
    let low = c.pass_low-left_here.ensures in
    let left = c.in-Some.ensures.left_nearer in
    let right = c.in-Some.ensures.right_nearer in
    record {
      left_can = left.0;
      left_ends = left.1;
      left_nearer = omega (arith, c.common.invariant.left_nearer, low.left_nearer, left.2);
      right_can = right.0;
      right_ends = right.1;
      alike = λ end a b h. c.in-Some.ensures.alike end a b (low.alike c.args.numeric end a b (c.common.invariant.alike end a b h));
    }

pub common-smaller : goal.common-smaller
common-smaller g c = omega (arith, c.pass_low-left_here.ensures.left_nearer, c.in-Some.ensures.left_nearer.2)

pub returns-in_default-clause-alike : goal.returns-in_default-clause-alike
returns-in_default-clause-alike g c = λ end a b h. c.pass_low-left_here.ensures.alike c.args.numeric end a b (c.common.invariant.alike end a b h)

pub returns-in_default-clause-left_nearer : goal.returns-in_default-clause-left_nearer
returns-in_default-clause-left_nearer g c = omega (arith, c.common.invariant.left_nearer, c.pass_low-left_here.ensures.left_nearer)
