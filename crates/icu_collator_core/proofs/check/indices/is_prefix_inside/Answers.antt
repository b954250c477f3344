use Rattle.std.proofs.Common.{◌↔◌, sym, ◌∙◌, subst}
use Rattle.std.specs.Bool.{IsTrue}
use Rattle.icu_collator_types.specs.declared.elements.word_tags.Tag.TheVariants.{Prefix}
use Rattle.icu_collator_types.specs.ElementWords.{has_tag}
use Rattle.icu_collator_core.specs.TableMeaning.{pools_of}
use Rattle.icu_collator_core.specs.WordIndices.{IsUnprefixedInside, has_context}
use Rattle.icu_collator_core.proofs.checks.CheckedTestLemmas.{after_test_and_yes, no_is, refuted, where_asked}
use Rattle.icu_collator_core.proofs.check.indices.is_prefix_inside.Goals as goal

pub returns-then-not-unprefixed : goal.returns-then-not-unprefixed
returns-then-not-unprefixed c =
    let pools = pools_of c.args.source.now in
    let told = subst (λ word. IsTrue c.in_ok-unprefixed.unprefixed ↔ IsUnprefixedInside pools word) c.default_of-default.ensures c.in_ok-unprefixed.ensures in
    refuted (λ asked. no_is c.in_ok-unprefixed.unprefixed c.if-not-unprefixed.true told (asked (sym c.has_tag.ensures ∙ c.if-not-has_tag.false)).1)

pub returns : goal.returns
returns c =
    let pools = pools_of c.args.source.now in
    let told = subst (λ word. IsTrue c.in_ok-unprefixed.unprefixed ↔ IsUnprefixedInside pools word) c.default_of-default.ensures c.in_ok-unprefixed.ensures in
    where_asked (has_tag Prefix c.args.word) c.in_ok-all.all (sym c.has_tag.ensures ∙ c.if-not-has_tag.false)
    (after_test_and_yes (has_context pools c.args.word) c.in_ok-unprefixed.unprefixed c.in_ok-all.all
    (sym c.has_context.ensures ∙ c.if-not-has_context.false) c.if-not-unprefixed.false told c.in_ok-all.ensures)
