use Rattle.std.proofs.Common.{◌≡◌, ℕ, true, false, [], ◌∷◌, List, None, ap, rules, subst, sym, ◌∙◌}
use lib.Utf8.{scalars}
use Rattle.icu_collator_core.specs.Elements.{elements_of_list}
use Rattle.icu_collator_core.specs.FlatNotes.{IsFlatNote}
use Rattle.icu_collator_core.specs.ReadSources.{canonical_by, weights_by}
use Rattle.icu_collator_core.specs.declared.notes.flat_note.FlatNote.{FlatNote}
use Rattle.icu_collator_core.proofs.readings.FlatNoteLemmas.{bounded_flat, noted_by}
use Rattle.icu_collator_core.proofs.notes.boundaries.note_of_first.Goals as goal

pub returns : goal.returns
returns c = λ d is.
    let source = c.args.sound.now in
    let first = c.args.first in
    let boundary : c.is_boundary.result ≡ true = search rules in
    let steady : c.is_steady.result ≡ true = search rules in
    let list : c.push.new.self.items ≡ first ∷ [] = search rules in
    let ok : scalars (first ∷ []) ≡ true = search rules in
    let note = c.in_ok-note.ensures in
    subst (λ (n : FlatNote). IsFlatNote source d n) (sym note.2)
    (noted_by source d note.0
    (bounded_flat source d first [] note.0 is ok (c.is_boundary.ensures boundary) (c.is_steady.ensures steady, tt) (λ starter. tt)
    (note.1 ∙ ap (λ (l : List ℕ). elements_of_list (canonical_by source) (weights_by None source) false l) list)))
