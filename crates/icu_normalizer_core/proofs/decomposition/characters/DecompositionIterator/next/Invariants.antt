use Rattle.std.proofs.Common.{◌≡◌, ◌≤◌, true, []}
use Rattle.icu_normalizer_core.specs.Decompositions.{DecomposesTo, CanDecompose, decomposition_size, pulls_left}
use Rattle.icu_normalizer_core.specs.Iter.{KeepsLeft}
use Rattle.icu_normalizer_core.specs.Run.{held, pending}
use Rattle.icu_normalizer_core.proofs.decomposition.characters.DecompositionIterator.next.Given as goal

abbrev pub invariant-loop-self : goal.invariant-loop-self
invariant-loop-self g l =
    KeepsLeft (DecomposesTo g.I.Iterator.next_gives) l.fn.self [] l.self
    × CanDecompose g.I.Iterator.can_next g.I.Iterator.remaining l.self
    × (decomposition_size g.I.Iterator.remaining l.self ≤ decomposition_size g.I.Iterator.remaining l.fn.self)
    × (held l.self.run ≡ pending l.self.run)
    × (l.fn.self.done ≡ true → l.self.done ≡ true)

abbrev pub decreases-loop-self : goal.decreases-loop-self
decreases-loop-self g l = pulls_left g.I.Iterator.remaining l.self
