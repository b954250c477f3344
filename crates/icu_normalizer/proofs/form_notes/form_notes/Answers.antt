use Rattle.std.proofs.Common.{◌+◌, List, ap, sym, subst, length, ◌∙◌}
use Rattle.std.proofs.lemmas.List.{length_push}
use Rattle.icu_normalizer_core.specs.FormData.{form_meaning}
use Rattle.icu_normalizer.specs.FormNotes.{AreLow}
use Rattle.icu_normalizer.specs.declared.form_notes.FormNote.{FormNote}
use Rattle.icu_normalizer.proofs.noted.FormNoteLemmas.{low_more}
use Rattle.icu_normalizer.proofs.form_notes.form_notes.Goals as goal

pub loop-code-preserved : goal.loop-code-preserved
loop-code-preserved c =
    let notes = c.loop-code.low.items in
    let note = c.note_at.result in
    record {
      count = ap length c.in_ok-push.ensures.items ∙ length_push notes note ∙ ap (λ n. n + 1) c.loop-code.invariant.count;
      notes = subst (λ (notes : List FormNote). AreLow (form_meaning c.args.basis) notes) (sym c.in_ok-push.ensures.items)
          (low_more (form_meaning c.args.basis) notes note c.loop-code.code c.loop-code.invariant.count c.note_at.ensures c.loop-code.invariant.notes);
    }
