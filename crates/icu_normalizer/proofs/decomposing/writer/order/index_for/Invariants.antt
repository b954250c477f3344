use Rattle.std.proofs.Common.{◌≡◌, ◌≤◌, true, drop, length, ltb}
use Rattle.std.specs.List.{list_all}
use Rattle.icu_normalizer_core.specs.FormData.{form_meaning}
use Rattle.icu_normalizer.proofs.decomposing.writer.order.index_for.Given as goal

abbrev pub invariant-loop-index : goal.invariant-loop-index
invariant-loop-index l =
    (l.index ≤ length l.list)
    × (list_all (λ d. ltb l.class ((form_meaning l.basis).class d)) (drop l.index l.list) ≡ true)

abbrev pub decreases-loop-index : goal.decreases-loop-index
decreases-loop-index l = l.index
