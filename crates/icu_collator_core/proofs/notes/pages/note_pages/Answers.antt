use Rattle.std.proofs.Common.{◌+◌, List, [], length, ap, sym, subst, ◌∙◌}
use Rattle.std.proofs.lemmas.List.{length_push}
use Rattle.icu_collator_core.specs.NotePages.{AreNotePages, IsNotePage}
use Rattle.icu_collator_core.specs.declared.notes.flat_note.FlatNote.{FlatNote}
use Rattle.icu_collator_core.proofs.readings.NoteListLemmas.{noted_more}
use Rattle.icu_collator_core.proofs.notes.pages.note_pages.Goals as goal

pub loop-page-init : goal.loop-page-init
loop-page-init c = record {
  count = ap length c.new-pages.ensures.items;
  pages = subst (λ (pages : List (List FlatNote)). AreNotePages c.args.sound.now pages) (sym c.new-pages.ensures.items) (λ page index. tt);
}

pub loop-page-preserved : goal.loop-page-preserved
loop-page-preserved c =
    let pages = c.loop-page.pages.items in
    let notes = c.in_ok-notes.notes in
    record {
      count = ap length c.in_ok-push.ensures.items ∙ length_push pages notes ∙ ap (λ n. n + 1) c.loop-page.invariant.count;
      pages = subst (λ (pages : List (List FlatNote)). AreNotePages c.args.sound.now pages) (sym c.in_ok-push.ensures.items)
          (noted_more (IsNotePage c.args.sound.now) [] (λ page index. tt) pages notes c.loop-page.page
          c.loop-page.invariant.count c.in_ok-notes.ensures c.loop-page.invariant.pages);
    }
