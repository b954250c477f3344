use Rattle.icu_normalizer_core.proofs.settling.SettlingLemmas.{HasProgress}
use Rattle.icu_normalizer_core.proofs.canonical.check.settle.settle_once.Given as goal

abbrev pub invariant-loop-index : goal.invariant-loop-index
invariant-loop-index l = HasProgress l.steps l.initial.settled l.settled l.more l.index
