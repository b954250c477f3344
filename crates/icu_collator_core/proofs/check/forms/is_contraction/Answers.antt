use Rattle.std.proofs.Common.{sym, ◌∙◌, ap}
use Rattle.icu_collator_types.specs.declared.elements.word_tags.Tag.TheVariants.{Contraction}
use Rattle.icu_collator_core.specs.TableMeaning.{pools_of}
use Rattle.icu_collator_core.specs.WordForms.{default_of, has_form, is_own_word}
use Rattle.icu_collator_core.proofs.checks.CheckedTestLemmas.{after_tests}
use Rattle.icu_collator_core.proofs.check.forms.is_contraction.Goals as goal

pub returns : goal.returns
returns c =
    let pools = pools_of c.args.source.now in
    after_tests (has_form Contraction c.args.word) (is_own_word pools (default_of pools c.args.word)) c.in_ok-all.all
    (sym c.has_form.ensures ∙ c.if-not-has_form.false)
    (ap (λ word. is_own_word pools word) (sym c.default_of-default.ensures) ∙ sym c.is_own_word.ensures ∙ c.if-not-is_own_word.false)
    c.in_ok-all.ensures
