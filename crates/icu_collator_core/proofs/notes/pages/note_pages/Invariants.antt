use Rattle.std.proofs.Common.{◌≡◌, length}
use Rattle.icu_collator_core.specs.NotePages.{AreNotePages}
use Rattle.icu_collator_core.proofs.notes.pages.note_pages.Given as goal

abbrev pub invariant-loop-page : goal.invariant-loop-page
invariant-loop-page l = record {
  count : length l.pages.items ≡ l.page;
  pages : AreNotePages l.sound l.pages.items;
}
