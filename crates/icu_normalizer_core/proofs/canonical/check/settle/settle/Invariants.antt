use Rattle.icu_normalizer_core.specs.Settled.{AreStarts, open_count}
use Rattle.icu_normalizer_core.proofs.canonical.check.settle.settle.Given as goal

abbrev pub invariant-loop : goal.invariant-loop
invariant-loop l = AreStarts l.steps l.settled.items

abbrev pub decreases-loop : goal.decreases-loop
decreases-loop l = open_count l.settled.items
