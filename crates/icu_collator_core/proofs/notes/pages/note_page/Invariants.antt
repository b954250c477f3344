use Rattle.std.proofs.Common.{◌≡◌, length}
use Rattle.icu_collator_core.specs.NotePages.{IsNotePage}
use Rattle.icu_collator_core.proofs.notes.pages.note_page.Given as goal

abbrev pub invariant-loop-index : goal.invariant-loop-index
invariant-loop-index l = record {
  count : length l.notes.items ≡ l.index;
  notes : IsNotePage l.sound l.page l.notes.items;
}
