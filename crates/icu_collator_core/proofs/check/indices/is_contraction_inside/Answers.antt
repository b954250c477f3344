use Rattle.std.proofs.Common.{sym, ◌∙◌, ap}
use Rattle.icu_collator_types.specs.declared.elements.word_tags.Tag.TheVariants.{Contraction}
use Rattle.icu_collator_types.specs.ElementWords.{has_tag}
use Rattle.icu_collator_core.specs.TableMeaning.{pools_of}
use Rattle.icu_collator_core.specs.WordForms.{default_of}
use Rattle.icu_collator_core.specs.WordIndices.{has_context, has_items}
use Rattle.icu_collator_core.proofs.checks.CheckedTestLemmas.{after_tests, where_asked}
use Rattle.icu_collator_core.proofs.check.indices.is_contraction_inside.Goals as goal

pub returns : goal.returns
returns c =
    let pools = pools_of c.args.source.now in
    where_asked (has_tag Contraction c.args.word) c.in_ok-all.all (sym c.has_tag.ensures ∙ c.if-not-has_tag.false)
    (after_tests (has_context pools c.args.word) (has_items pools (default_of pools c.args.word)) c.in_ok-all.all
    (sym c.has_context.ensures ∙ c.if-not-has_context.false)
    (ap (λ word. has_items pools word) (sym c.default_of-default.ensures) ∙ sym c.has_items.ensures ∙ c.if-not-has_items.false)
    c.in_ok-all.ensures)
