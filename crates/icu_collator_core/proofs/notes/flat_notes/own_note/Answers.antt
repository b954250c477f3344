use Rattle.std.proofs.Common.{ℕ, [], ◌∷◌, None, subst}
use Rattle.icu_collator_core.specs.FlatNotes.{IsFlatUpTo}
use Rattle.icu_collator_core.proofs.readings.FlatNoteLemmas.{one_flat}
use Rattle.icu_collator_core.proofs.notes.flat_notes.own_note.Goals as goal

pub returns-in-Some : goal.returns-in-Some
returns-in-Some c = λ d is numeric.
    let source = c.args.sound.now in
    let lead = c.highest_before-lead.result in
    subst (λ (k : ℕ). IsFlatUpTo source numeric d (c.in-Some.element ∷ []) lead k) c.requires
    (one_flat source d numeric c.args.first lead (c.highest_before-lead.ensures numeric) c.in-Some.element is (c.in-Some.ensures numeric))

pub returns-in-Some-flat_digit : goal.returns-in-Some-flat_digit
returns-in-Some-flat_digit c = λ d is.
    let source = c.args.sound.now in
    let lead = c.highest_before-lead.result in
    subst (λ (k : ℕ). IsFlatUpTo source None d (c.in-Some-flat_digit.element ∷ []) lead k) c.requires
    (one_flat source d None c.args.first lead (c.highest_before-lead.ensures None) c.in-Some-flat_digit.element is c.in-Some-flat_digit.ensures)
