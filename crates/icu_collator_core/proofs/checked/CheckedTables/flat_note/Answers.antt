use Rattle.std.proofs.Common.{◌≡◌, List, get_or, ap, sym, subst, ◌∙◌, arith}
use Rattle.icu_collator_core.specs.Acceptance.{CollationSource}
use Rattle.icu_collator_core.specs.FlatNotes.{IsFlatNote}
use Rattle.icu_collator_core.specs.declared.notes.flat_note.FlatNote.{FlatNote}
use Rattle.icu_collator_core.specs.declared.notes.flat_note.FlatNote.TheVariants.{Other}
use Rattle.icu_collator_core.proofs.checked.CheckedTables.flat_note.Goals as goal

pub returns-in-Some : goal.returns-in-Some
returns-in-Some c =
    let source : CollationSource = c.self.inside.sound in
    let note = c.in-Some.note.now in
    let is : note ≡ get_or c.deref.result.now c.args.c Other = c.in-Some.ensures.lookup.4 (omega arith) Other in
    subst (λ (source : CollationSource). IsFlatNote source c.args.c note) c.self.view_is
    (subst (λ (n : FlatNote). IsFlatNote source c.args.c n) (sym (is ∙ ap (λ (notes : List FlatNote). get_or notes c.args.c Other) c.deref.ensures.value))
    (c.self.invariant.0 c.args.c))
