use Rattle.std.proofs.Common.{All}
use Rattle.icu_collator_core.specs.Acceptance.{CollationSource}
use Rattle.icu_collator_core.specs.Pairs.{ArePairNotes, IsPairNote}
use Rattle.icu_collator_core.proofs.notes.pairs.PairNotes.placed.Given as goal

abbrev pub invariant-loop-pair : goal.invariant-loop-pair
invariant-loop-pair l = (source : CollationSource) → All (IsPairNote source) l.pairs → ArePairNotes source l.notes
