use Rattle.icu_normalizer_core.proofs.settling.DepthLemmas.{IsWalk, looks_left}
use Rattle.icu_normalizer_core.proofs.canonical.check.settle.settle_in_depth.Given as goal

abbrev pub invariant-loop-index : goal.invariant-loop-index
invariant-loop-index l = IsWalk l.steps l.settled l.visited.items l.path.items

abbrev pub decreases-loop-index : goal.decreases-loop-index
decreases-loop-index l = looks_left l.visited.items l.path.items
