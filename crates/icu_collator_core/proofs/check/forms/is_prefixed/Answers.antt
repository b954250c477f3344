use Rattle.std.proofs.Common.{◌↔◌, sym, ◌∙◌, subst}
use Rattle.std.specs.Bool.{IsTrue}
use Rattle.icu_collator_types.specs.declared.elements.word_tags.Tag.TheVariants.{Prefix}
use Rattle.icu_collator_core.specs.TableMeaning.{pools_of}
use Rattle.icu_collator_core.specs.WordForms.{IsUnprefixedWord, has_form}
use Rattle.icu_collator_core.proofs.checks.CheckedTestLemmas.{after_test_and_yes, no_is, refuted}
use Rattle.icu_collator_core.proofs.check.forms.is_prefixed.Goals as goal

pub returns-then-not-unprefixed : goal.returns-then-not-unprefixed
returns-then-not-unprefixed c =
    let pools = pools_of c.args.source.now in
    let told = subst (λ word. IsTrue c.in_ok-unprefixed.unprefixed ↔ IsUnprefixedWord pools word) c.default_of-default.ensures c.in_ok-unprefixed.ensures in
    refuted (λ w. no_is c.in_ok-unprefixed.unprefixed c.if-not-unprefixed.true told w.1)

pub returns : goal.returns
returns c =
    let pools = pools_of c.args.source.now in
    let told = subst (λ word. IsTrue c.in_ok-unprefixed.unprefixed ↔ IsUnprefixedWord pools word) c.default_of-default.ensures c.in_ok-unprefixed.ensures in
    after_test_and_yes (has_form Prefix c.args.word) c.in_ok-unprefixed.unprefixed c.in_ok-all.all
    (sym c.has_form.ensures ∙ c.if-not-has_form.false) c.if-not-unprefixed.false told c.in_ok-all.ensures
