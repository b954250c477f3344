use Rattle.std.proofs.Common.{◌≡◌, length}
use Rattle.icu_collections_sets.specs.Characters.{characters_left, IsLeft}
use Rattle.icu_collections_sets.proofs.codepointinvlist.set_characters.CharsIterator.next.Given as goal

abbrev pub invariant-loop-self : goal.invariant-loop-self
invariant-loop-self l =
    IsLeft l.self-inside.start l.self-inside.end l.self-inside.edges
    × (characters_left l.self-inside.start l.self-inside.end l.self-inside.edges ≡ characters_left l.initial.self-inside.start l.initial.self-inside.end l.initial.self-inside.edges)

abbrev pub decreases-loop-self : goal.decreases-loop-self
decreases-loop-self l = length l.self-inside.edges
