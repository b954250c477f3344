use Rattle.std.proofs.Common.{◌≡◌, [], ◌∷◌, ◌++◌, refl, rules, subst}
use Rattle.icu_collator_core.specs.FlatNotes.{IsFlatNote}
use Rattle.icu_collator_core.specs.Pools.{element_of}
use Rattle.icu_collator_core.specs.declared.notes.flat_note.FlatNote.{FlatNote}
use Rattle.icu_collator_core.proofs.readings.FlatStepLemmas.{boundary_step}
use Rattle.icu_collator_core.proofs.notes.flat_note.FlatNote.boundary_primary.Goals as goal

pub returns-in-Boundary : goal.returns-in-Boundary
returns-in-Boundary c = λ some source d note numeric before old.
    let noted = subst (λ (n : FlatNote). IsFlatNote source d n) c.in-Boundary.is note in
    let element = c.in-Boundary.element in
    let is : (element_of element).primary ≡ c.primary.result = search rules in (
      old ++ element ∷ [],
      boundary_step source numeric d element before old (old ++ element ∷ []) c.primary.result (noted.flat numeric before) is refl,
    )
