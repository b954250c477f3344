use Rattle.std.proofs.Common.{◌≡◌, Option, ℕ, [], ◌∷◌, ◌++◌, false, refl, rules, subst, sym}
use Rattle.std.specs.Option.{is_some}
use Rattle.icu_collator_core.specs.FlatNotes.{IsFlatNote, IsFlatUpTo}
use Rattle.icu_collator_core.specs.declared.notes.flat_note.FlatNote.{FlatNote}
use Rattle.icu_collator_core.proofs.readings.AloneReadLemmas.{not_some}
use Rattle.icu_collator_core.proofs.readings.FlatStepLemmas.{one_step, two_step}
use Rattle.icu_collator_core.proofs.notes.flat_note.FlatNote.step_other.Goals as goal

pub returns-in_ok-primary-in-Two : goal.returns-in_ok-primary-in-Two
returns-in_ok-primary-in-Two c = λ source d decomposing note old.
    let noted = subst (λ (n : FlatNote). IsFlatNote source d n) c.in-Two.is note in
    let pushed = c.in_ok-primary-in-Two.ensures in (
      old ++ c.in-Two.first ∷ c.in-Two.second ∷ [],
      two_step source c.args.numeric d c.in-Two.first c.in-Two.second c.in-Two.lead c.in-Two.trail c.args.before old (old ++ c.in-Two.first ∷ c.in-Two.second ∷ [])
          c.in_ok-primary-in-Two.primary decomposing (noted c.args.numeric) pushed.follows pushed.primary pushed.starter pushed.none refl,
    )

pub returns-in_ok-primary-in-Digit : goal.returns-in_ok-primary-in-Digit
returns-in_ok-primary-in-Digit c = λ source d decomposing note old.
    let noted = subst (λ (n : FlatNote). IsFlatNote source d n) c.in-Digit.is note in
    let pushed = c.in_ok-primary-in-Digit.ensures in
    let uncounted : is_some c.args.numeric ≡ false = search rules in
    let counted = subst (λ (n : Option ℕ). IsFlatUpTo source n d (c.in-Digit.element ∷ []) c.in-Digit.lead c.in-Digit.trail) (sym (not_some c.args.numeric uncounted)) noted in (
      old ++ c.in-Digit.element ∷ [],
      one_step source c.args.numeric d c.in-Digit.element c.in-Digit.lead c.in-Digit.trail c.args.before old (old ++ c.in-Digit.element ∷ [])
          c.in_ok-primary-in-Digit.primary decomposing counted pushed.follows pushed.primary pushed.starter refl,
    )
