use Rattle.std.proofs.Common.{◌≡◌, ◌≤◌, [], false}
use Rattle.icu_normalizer_core.specs.Decompositions.{decomposition_size}
use Rattle.icu_normalizer_core.specs.Iter.{KeepsLeft}
use Rattle.icu_normalizer.specs.Compositions.{ComposesTo, CanCompose, IsFinished, composition_size}
use Rattle.icu_normalizer.proofs.composing.characters.CompositionIterator.next.Given as goal

abbrev pub invariant-loop-item : goal.invariant-loop-item
invariant-loop-item g l =
    KeepsLeft (ComposesTo g.I.Iterator.next_gives) l.fn.self [] l.self
    × CanCompose g.I.Iterator.can_next g.I.Iterator.remaining l.self
    × (composition_size g.I.Iterator.remaining l.self ≤ composition_size g.I.Iterator.remaining l.fn.self)
    × (l.self.composer.leaving ≡ false)
    × (IsFinished l.fn.self → IsFinished l.self)

abbrev pub decreases-loop-item : goal.decreases-loop-item
decreases-loop-item g l = decomposition_size g.I.Iterator.remaining l.self.chars
