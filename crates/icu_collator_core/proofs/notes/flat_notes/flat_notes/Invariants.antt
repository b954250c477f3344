use Rattle.std.proofs.Common.{◌≡◌, length}
use Rattle.icu_collator_core.specs.FlatNotes.{AreFlatNotes}
use Rattle.icu_collator_core.proofs.notes.flat_notes.flat_notes.Given as goal

abbrev pub invariant-loop-code : goal.invariant-loop-code
invariant-loop-code l = record {
  count : length l.notes.items ≡ l.code;
  notes : AreFlatNotes l.sound l.notes.items;
}
