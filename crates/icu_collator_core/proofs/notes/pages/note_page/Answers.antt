use Rattle.std.proofs.Common.{◌+◌, ◌*◌, List, length, ap, sym, subst, ◌∙◌}
use Rattle.std.proofs.lemmas.List.{length_push}
use Rattle.icu_collator_core.specs.FlatNotes.{IsFlatNote}
use Rattle.icu_collator_core.specs.NotePages.{IsNotePage}
use Rattle.icu_collator_core.specs.declared.notes.flat_note.FlatNote.{FlatNote}
use Rattle.icu_collator_core.specs.declared.notes.flat_note.FlatNote.TheVariants.{Other}
use Rattle.icu_collator_core.proofs.readings.NoteListLemmas.{noted_more}
use Rattle.icu_collator_core.proofs.notes.pages.note_page.Goals as goal

pub loop-index-init : goal.loop-index-init
loop-index-init c = record {
  count = ap length c.new-notes.ensures.items;
  notes = subst (λ (notes : List FlatNote). IsNotePage c.args.sound.now c.args.page notes) (sym c.new-notes.ensures.items) (λ d. tt);
}

pub loop-index-preserved : goal.loop-index-preserved
loop-index-preserved c =
    let notes = c.loop-index.notes.items in
    let note = c.in_ok-note.note in
    record {
      count = ap length c.in_ok-push.ensures.items ∙ length_push notes note ∙ ap (λ n. n + 1) c.loop-index.invariant.count;
      notes = subst (λ (notes : List FlatNote). IsNotePage c.args.sound.now c.args.page notes) (sym c.in_ok-push.ensures.items)
          (noted_more (λ index. IsFlatNote c.args.sound.now (c.args.page * 64 + index)) Other (λ d. tt) notes note c.loop-index.index
          c.loop-index.invariant.count c.in_ok-note.ensures c.loop-index.invariant.notes);
    }
