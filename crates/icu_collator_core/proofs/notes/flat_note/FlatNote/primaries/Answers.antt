use Rattle.std.proofs.Common.{◌≡◌, ◌≤◌, arith, rules, subst}
use Rattle.icu_collator_core.specs.FlatNotes.{IsFlatNote}
use Rattle.icu_collator_core.specs.Pools.{element_of}
use Rattle.icu_collator_core.specs.declared.notes.flat_note.FlatNote.{FlatNote}
use Rattle.icu_collator_core.proofs.readings.PrimariesLemmas.{one_has}
use Rattle.icu_collator_core.proofs.notes.flat_note.FlatNote.primaries.Goals as goal

pub returns-in-Boundary : goal.returns-in-Boundary
returns-in-Boundary c = λ source d note.
    let noted = subst (λ (n : FlatNote). IsFlatNote source d n) c.in-Boundary.is note in
    let is : (element_of c.in-Boundary.element).primary ≡ c.primary.result = search rules in
    one_has source c.args.numeric d c.args.before 0 c.one.result c.in-Boundary.element c.primary.result (noted.flat c.args.numeric c.args.before) is c.one.ensures

pub returns-in-One : goal.returns-in-One
returns-in-One c = λ source d note.
    let noted = subst (λ (n : FlatNote). IsFlatNote source d n) c.in-One.is note in
    let least : c.args.before ≤ c.in-One.lead = omega (arith, c.if-before-lead.false) in
    let is : (element_of c.in-One.element).primary ≡ c.primary-in-One.result = search rules in
    one_has source c.args.numeric d c.args.before c.in-One.trail c.one-in-One.result c.in-One.element c.primary-in-One.result (noted c.args.numeric c.args.before least) is c.one-in-One.ensures
