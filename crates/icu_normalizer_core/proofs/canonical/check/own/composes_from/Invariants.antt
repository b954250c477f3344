use Rattle.std.proofs.Common.{◌≡◌, [], drop}
use Rattle.icu_normalizer_core.specs.Canonical.{composing}
use Rattle.icu_normalizer_core.specs.CanonicalMeaning.{meaning}
use Rattle.icu_normalizer_core.proofs.canonical.check.own.composes_from.Given as goal

abbrev pub invariant-loop-next : goal.invariant-loop-next
invariant-loop-next l = composing (meaning l.tables) l.starter [] (drop l.next-index l.rest) ≡ composing (meaning l.tables) l.first [] l.rest
