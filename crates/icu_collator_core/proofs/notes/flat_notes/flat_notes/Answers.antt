use Rattle.std.proofs.Common.{◌+◌, List, length, ap, sym, subst, ◌∙◌}
use Rattle.std.proofs.lemmas.List.{length_push}
use Rattle.icu_collator_core.specs.FlatNotes.{AreFlatNotes, IsFlatNote}
use Rattle.icu_collator_core.specs.declared.notes.flat_note.FlatNote.{FlatNote}
use Rattle.icu_collator_core.specs.declared.notes.flat_note.FlatNote.TheVariants.{Other}
use Rattle.icu_collator_core.proofs.readings.NoteListLemmas.{noted_more}
use Rattle.icu_collator_core.proofs.notes.flat_notes.flat_notes.Goals as goal

pub loop-code-init : goal.loop-code-init
loop-code-init c = record {
  count = ap length c.new-notes.ensures.items;
  notes = subst (λ (notes : List FlatNote). AreFlatNotes c.args.sound.now notes) (sym c.new-notes.ensures.items) (λ d. tt);
}

pub loop-code-preserved : goal.loop-code-preserved
loop-code-preserved c =
    let notes = c.loop-code.notes.items in
    let note = c.in_ok-note.note in
    record {
      count = ap length c.in_ok-push.ensures.items ∙ length_push notes note ∙ ap (λ n. n + 1) c.loop-code.invariant.count;
      notes = subst (λ (notes : List FlatNote). AreFlatNotes c.args.sound.now notes) (sym c.in_ok-push.ensures.items)
          (noted_more (IsFlatNote c.args.sound.now) Other (λ d. tt) notes note c.loop-code.code c.loop-code.invariant.count c.in_ok-note.ensures c.loop-code.invariant.notes);
    }
