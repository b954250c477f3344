use Rattle.std.proofs.Common.{◌≡◌, drop}
use Rattle.std.specs.declared.cmp.Ordering.TheVariants.{Equal}
use Rattle.icu_collator.specs.FlatOrders.{weights_order}
use Rattle.icu_collator.proofs.compare.weights.order_by_weights.Given as goal

abbrev pub invariant-loop-index : goal.invariant-loop-index
invariant-loop-index l =
    weights_order l.options Equal l.left l.right ≡ weights_order l.options l.known (drop l.index l.left) (drop l.index l.right)
