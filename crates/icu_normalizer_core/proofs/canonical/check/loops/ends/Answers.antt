use Rattle.std.proofs.Common.{refl}
use Rattle.std.proofs.lemmas.Bool.{false≢true}
use Rattle.icu_normalizer_core.specs.CanonicalMeaning.{lists_of}
use Rattle.icu_normalizer_core.proofs.faults.FaultLemmas.{left_from, left_to}
use Rattle.icu_normalizer_core.proofs.settling.SettlingLemmas.{stuck_endless}
use Rattle.icu_normalizer_core.proofs.canonical.check.loops.ends.Goals as goal

pub returns-in-Some : goal.returns-in-Some
returns-in-Some c = (λ yes. (c.in-Some.ensures.0, left_from (lists_of c.args.tables.now) c.args.c c.in-Some.ensures.0 c.in-Some.ensures.1), λ e. refl)

pub returns-in-None : goal.returns-in-None
returns-in-None c = (
  λ off. absurd (false≢true off),
  λ e. absurd (stuck_endless c.args.tables.now.steps c.args.settled.now c.requires.triples c.requires.starts c.requires.done c.args.c c.in-None.ensures e.0
      (left_to (lists_of c.args.tables.now) c.args.c e.0 e.1)),
)
