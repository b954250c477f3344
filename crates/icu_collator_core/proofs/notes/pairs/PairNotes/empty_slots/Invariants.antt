use Rattle.std.proofs.Common.{All}
use Rattle.icu_collator_core.specs.Acceptance.{CollationSource}
use Rattle.icu_collator_core.specs.Pairs.{IsPairNote}
use Rattle.icu_collator_core.proofs.notes.pairs.PairNotes.empty_slots.Given as goal

abbrev pub invariant-loop-slot : goal.invariant-loop-slot
invariant-loop-slot l = (source : CollationSource) → All (IsPairNote source) l.slots.items
