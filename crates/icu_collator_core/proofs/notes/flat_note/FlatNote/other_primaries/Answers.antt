use Rattle.std.proofs.Common.{◌≡◌, ◌≤◌, Option, ℕ, [], ◌∷◌, arith, false, refl, rules, subst, sym}
use Rattle.std.specs.Option.{is_some}
use Rattle.icu_collator_core.specs.FlatNotes.{IsFlatNote, IsFlatUpTo}
use Rattle.icu_collator_core.specs.Pools.{element_of}
use Rattle.icu_collator_core.specs.declared.notes.flat_note.FlatNote.{FlatNote}
use Rattle.icu_collator_core.proofs.readings.AloneReadLemmas.{not_some}
use Rattle.icu_collator_core.proofs.readings.PrimariesLemmas.{one_has, two_have}
use Rattle.icu_collator_core.proofs.notes.flat_note.FlatNote.other_primaries.Goals as goal

pub returns-else-before-lead : goal.returns-else-before-lead
returns-else-before-lead c = λ source d note.
    let noted = subst (λ (n : FlatNote). IsFlatNote source d n) c.in-Two.is note in
    let least : c.args.before ≤ c.in-Two.lead = omega (arith, c.if-before-lead.false) in
    let is : (element_of c.in-Two.first).primary ≡ c.primary.result = search rules in
    let too : (element_of c.in-Two.second).primary ≡ c.primary-in-Two.result = search rules in
    two_have source c.args.numeric d c.args.before c.in-Two.trail (record { first = c.primary.result; second = c.primary-in-Two.result; third = 0; class = c.in-Two.trail })
    c.in-Two.first c.in-Two.second c.primary.result c.primary-in-Two.result (noted c.args.numeric c.args.before least) is too refl

pub returns-else-before-lead-2 : goal.returns-else-before-lead-2
returns-else-before-lead-2 c = λ source d note.
    let noted = subst (λ (n : FlatNote). IsFlatNote source d n) c.in-Digit.is note in
    let uncounted : is_some c.args.numeric ≡ false = search rules in
    let counted = subst (λ (n : Option ℕ). IsFlatUpTo source n d (c.in-Digit.element ∷ []) c.in-Digit.lead c.in-Digit.trail) (sym (not_some c.args.numeric uncounted)) noted in
    let least : c.args.before ≤ c.in-Digit.lead = omega (arith, c.if-before-lead-2.false) in
    let is : (element_of c.in-Digit.element).primary ≡ c.primary-in-Digit.result = search rules in
    one_has source c.args.numeric d c.args.before c.in-Digit.trail c.one.result c.in-Digit.element c.primary-in-Digit.result (counted c.args.before least) is c.one.ensures
