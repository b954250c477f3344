use Rattle.std.proofs.Common.{◌∷◌, [], subst}
use Rattle.std.proofs.lemmas.Bool.{leb-true}
use Rattle.icu_collator_core.specs.FlatNotes.{IsFlatNote}
use Rattle.icu_collator_core.specs.declared.notes.flat_note.FlatNote.{FlatNote}
use Rattle.icu_collator_core.proofs.readings.StretchLemmas.{flat_begins}
use Rattle.icu_collator_core.proofs.notes.flat_note.FlatNote.is_boundary.Goals as goal

pub returns-in-Boundary : goal.returns-in-Boundary
returns-in-Boundary c = λ is source numeric d note.
    let noted = subst (λ (n : FlatNote). IsFlatNote source d n) c.in-Boundary.is note in
    flat_begins source numeric d (c.in-Boundary._element ∷ []) 0 (noted.flat numeric 256)

pub returns-in-One : goal.returns-in-One
returns-in-One c = λ is source numeric d note.
    let noted = subst (λ (n : FlatNote). IsFlatNote source d n) c.in-One.is note in
    flat_begins source numeric d (c.in-One._element ∷ []) c.in-One._trail (noted numeric 256 (leb-true 256 c.in-One.lead is))

pub returns-in-Two : goal.returns-in-Two
returns-in-Two c = λ is source numeric d note.
    let noted = subst (λ (n : FlatNote). IsFlatNote source d n) c.in-Two.is note in
    flat_begins source numeric d (c.in-Two._first ∷ c.in-Two._second ∷ []) c.in-Two._trail (noted numeric 256 (leb-true 256 c.in-Two.lead is))
