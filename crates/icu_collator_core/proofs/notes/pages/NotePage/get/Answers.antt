use Rattle.std.proofs.Common.{List, get_or, ap, ◌∙◌, arith}
use Rattle.icu_collator_core.specs.declared.notes.flat_note.FlatNote.{FlatNote}
use Rattle.icu_collator_core.specs.declared.notes.flat_note.FlatNote.TheVariants.{Other}
use Rattle.icu_collator_core.proofs.notes.pages.NotePage.get.Goals as goal

pub returns-in-Some : goal.returns-in-Some
returns-in-Some c =
    c.in-Some.ensures.lookup.4 (omega arith) Other ∙ ap (λ (notes : List FlatNote). get_or notes c.args.index Other) (c.deref.ensures.value ∙ c.self.view_is)
