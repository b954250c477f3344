use Rattle.std.proofs.Common.{All}
use Rattle.icu_collator_core.specs.Pairs.{IsPairNote}
use Rattle.icu_collator_core.proofs.notes.found_pairs.push_behind.Given as goal

abbrev pub invariant-loop-code : goal.invariant-loop-code
invariant-loop-code l = All (IsPairNote l.sound) l.pairs.items
