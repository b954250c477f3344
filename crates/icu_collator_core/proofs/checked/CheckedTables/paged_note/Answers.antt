use Rattle.std.proofs.Common.{◌≡◌, ℕ, ◌/◌, ◌%◌, List, [], get_or, ap, sym, subst, ◌∙◌, arith}
use Rattle.std.proofs.lemmas.Nat.{div-add-mod'}
use Rattle.icu_collator_core.specs.Acceptance.{CollationSource}
use Rattle.icu_collator_core.specs.FlatNotes.{IsFlatNote}
use Rattle.icu_collator_core.specs.declared.notes.flat_note.FlatNote.{FlatNote}
use Rattle.icu_collator_core.specs.declared.notes.flat_note.FlatNote.TheVariants.{Other}
use Rattle.icu_collator_core.proofs.checked.CheckedTables.paged_note.Goals as goal

pub returns : goal.returns
returns c =
    let source : CollationSource = c.self.inside.sound in
    let code = c.args.c in
    let pages = c.self.inside.pages.items in
    let page = c.in_ok-page.page.now in
    let note = c.in_ok-note.note.now in
    let page_is : page ≡ get_or pages (code / 64) [] =
    c.in_ok-page.ensures.lookup.4 (omega arith) [] ∙ ap (λ (pages : List (List FlatNote)). get_or pages (code / 64) []) c.deref.ensures.value in
    subst (λ (source : CollationSource). IsFlatNote source code note) c.self.view_is
    (subst (λ (n : FlatNote). IsFlatNote source code n) (sym (c.in_ok-note.ensures ∙ ap (λ (p : List FlatNote). get_or p (code % 64) Other) page_is))
    (subst (λ (d : ℕ). IsFlatNote source d (get_or (get_or pages (code / 64) []) (code % 64) Other)) (div-add-mod' code 64)
    (c.self.invariant.1 (code / 64) (code % 64))))
