use Rattle.icu_normalizer_core.specs.CanonicalMeaning.{lists_of}
use Rattle.icu_normalizer_core.proofs.faults.OffenderLemmas.{IsLeastIn}
use Rattle.icu_normalizer_core.proofs.faults.PairTestLemmas.{IsBadBelow}
use Rattle.icu_normalizer_core.proofs.canonical.check.pairs.first_badly_composed.Given as goal

abbrev pub invariant-loop-index : goal.invariant-loop-index
invariant-loop-index l = IsLeastIn (IsBadBelow (lists_of l.tables) l.index) l.found
