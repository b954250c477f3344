use Rattle.std.proofs.Common.{◌≤◌, []}
use Rattle.icu_normalizer_core.specs.Iter.{KeepsLeft}
use Rattle.icu_normalizer.specs.Uts46Iter.{MapsTo, CanMap, mapped_size, pulls_left}
use Rattle.icu_normalizer.proofs.uts46.mapped_characters.MappedCharsIterator.next.Given as goal

abbrev pub invariant-loop-self : goal.invariant-loop-self
invariant-loop-self g l =
    KeepsLeft (MapsTo g.I.Iterator.next_gives) l.fn.self [] l.self
    × CanMap g.I.Iterator.can_next g.I.Iterator.remaining l.self
    × (mapped_size g.I.Iterator.remaining l.self ≤ mapped_size g.I.Iterator.remaining l.fn.self)

abbrev pub decreases-loop-self : goal.decreases-loop-self
decreases-loop-self g l = pulls_left g.I.Iterator.remaining l.self
