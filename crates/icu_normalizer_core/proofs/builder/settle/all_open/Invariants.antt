use Rattle.icu_normalizer_core.proofs.settling.SettlingLemmas.{AreOpen}
use Rattle.icu_normalizer_core.proofs.builder.settle.all_open.Given as goal

abbrev pub invariant-loop : goal.invariant-loop
invariant-loop l = AreOpen l.settled.items l.counter
