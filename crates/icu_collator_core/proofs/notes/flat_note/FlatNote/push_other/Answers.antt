use Rattle.std.proofs.Common.{[], ◌∷◌, ◌++◌, ℕ, List, append_assoc, ap, subst, ◌∙◌}
use Rattle.icu_collator_core.specs.FlatNotes.{IsFlatNote}
use Rattle.icu_collator_core.specs.declared.notes.flat_note.FlatNote.{FlatNote}
use Rattle.icu_collator_core.proofs.notes.flat_note.FlatNote.push_other.Goals as goal

pub returns-then-push-2 : goal.returns-then-push-2
returns-then-push-2 g c = λ source x note.
    let flat = subst (λ (n : FlatNote). IsFlatNote source x n) c.in-Two.is note c.args.numeric in
    let first = c.in-Two.first in
    let second = c.in-Two.second in
    record {
      items = first ∷ second ∷ [];
      flat = flat c.args.before c.if-before-lead.true;
      appended =
          c.push-then-push.ensures c.if-push-2.true ∙ ap (λ (l : List ℕ). l ++ second ∷ []) (c.push.ensures c.if-push.true)
          ∙ append_assoc c.args.elements.now.items (first ∷ []) (second ∷ []);
    }
