-- Notes of characters in pages of 64, each at the index that is its page's number.
use Rattle.std.specs.Prelude.{ℕ, ◌+◌, ◌*◌, List, [], get_or}
use Rattle.icu_collator_core.specs.Acceptance.{CollationSource}
use Rattle.icu_collator_core.specs.FlatNotes.{IsFlatNote}
use Rattle.icu_collator_core.specs.declared.notes.flat_note.FlatNote.{FlatNote}
use Rattle.icu_collator_core.specs.declared.notes.flat_note.FlatNote.TheVariants.{Other}

-- notes of a page's characters, in their order
abbrev pub IsNotePage : CollationSource → ℕ → List FlatNote → Type 0
IsNotePage source page notes = (index : ℕ) → IsFlatNote source (page * 64 + index) (get_or notes index Other)

-- pages, in their order
abbrev pub AreNotePages : CollationSource → List (List FlatNote) → Type 0
AreNotePages source pages = (page : ℕ) → IsNotePage source page (get_or pages page [])
