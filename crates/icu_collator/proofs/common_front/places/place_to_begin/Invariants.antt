use Rattle.std.proofs.Common.{ℕ, List}
use Rattle.icu_normalizer_core.specs.Iter.{Spells}
use Rattle.icu_collator.proofs.boundaries.PlaceLemmas.{SearchedSoFar}
use Rattle.icu_collator.proofs.common_front.places.place_to_begin.Given as goal

abbrev pub invariant-loop-c : goal.invariant-loop-c
invariant-loop-c g l =
    (text : List ℕ) → Spells g.I.Iterator.next_gives l.fn.chars text
    → SearchedSoFar g.I.Iterator.next_gives (g.T.PassageTest.passes l.fn.test) (g.T.PassageTest.goes_on l.fn.test) text l.fn.common l.index l.read l.earlier l.latest l.c-iterator
