use Rattle.std.proofs.Common.{◌≡◌, [], ◌∷◌, ◌++◌, refl, rules, subst}
use Rattle.icu_collator_core.specs.FlatNotes.{IsFlatNote}
use Rattle.icu_collator_core.specs.Pools.{element_of}
use Rattle.icu_collator_core.specs.declared.notes.flat_note.FlatNote.{FlatNote}
use Rattle.icu_collator_core.proofs.readings.FlatStepLemmas.{boundary_step, one_step}
use Rattle.icu_collator_core.proofs.notes.flat_note.FlatNote.step.Goals as goal

pub returns-in-Boundary : goal.returns-in-Boundary
returns-in-Boundary c = λ source d decomposing note old.
    let noted = subst (λ (n : FlatNote). IsFlatNote source d n) c.in-Boundary.is note in
    let element = c.in-Boundary.element in
    let is : (element_of element).primary ≡ c.primary.result = search rules in (
      old ++ element ∷ [],
      boundary_step source c.args.numeric d element c.args.before old (old ++ element ∷ []) c.primary.result (noted.flat c.args.numeric c.args.before) is refl,
    )

pub returns-in-One : goal.returns-in-One
returns-in-One c = λ source d decomposing note old.
    let noted = subst (λ (n : FlatNote). IsFlatNote source d n) c.in-One.is note in
    let pushed = c.in_ok-primary.ensures in (
      old ++ c.in-One.element ∷ [],
      one_step source c.args.numeric d c.in-One.element c.in-One.lead c.in-One.trail c.args.before old (old ++ c.in-One.element ∷ [])
          c.in_ok-primary.primary decomposing (noted c.args.numeric) pushed.follows pushed.primary pushed.starter refl,
    )
