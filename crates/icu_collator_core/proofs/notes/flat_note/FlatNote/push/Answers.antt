use Rattle.std.proofs.Common.{[], ◌∷◌, subst}
use Rattle.icu_collator_core.specs.FlatNotes.{IsFlatNote}
use Rattle.icu_collator_core.specs.declared.notes.flat_note.FlatNote.{FlatNote}
use Rattle.icu_collator_core.proofs.notes.flat_note.FlatNote.push.Goals as goal

pub returns-then-push : goal.returns-then-push
returns-then-push g c = λ source x note.
    let noted = subst (λ (n : FlatNote). IsFlatNote source x n) c.in-Boundary.is note in
    record {
      items = c.in-Boundary.element ∷ [];
      flat = noted.flat c.args.numeric c.args.before;
      appended = c.push.ensures c.if-push.true;
    }
