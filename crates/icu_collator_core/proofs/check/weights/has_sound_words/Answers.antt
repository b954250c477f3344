use Rattle.std.proofs.Common.{◌↔◌, Some, ap, sym, ◌∙◌, subst}
use Rattle.std.specs.Bool.{IsTrue}
use Rattle.icu_collator_types.specs.declared.elements.word_tags.Tag.TheVariants.{Contraction}
use Rattle.icu_collator_types.specs.ElementWords.{has_tag}
use Rattle.icu_collator_core.specs.Pools.{lone_word}
use Rattle.icu_collator_core.specs.TableMeaning.{pools_of}
use Rattle.icu_collator_core.specs.WeightFaults.{is_sound_in_context, is_sound_lone_word, is_sound_word}
use Rattle.icu_collator_core.specs.WordForms.{ValuesPass}
use Rattle.icu_collator_core.proofs.checks.CheckedTestLemmas.{after_test_and_yes, no_is, refuted}
use Rattle.icu_collator_core.proofs.check.weights.has_sound_words.Goals as goal

pub returns-then-not-suffixes : goal.returns-then-not-suffixes
returns-then-not-suffixes c =
    let pools = pools_of c.args.source.now in
    let told = subst (λ word. IsTrue c.in_ok-suffixes.suffixes ↔ (IsTrue (has_tag Contraction word) → ValuesPass pools (is_sound_in_context c.args.special.now pools c.args.c) word))
    c.unprefixed_word-unprefixed.ensures c.in_ok-suffixes.ensures in
    refuted (λ all. no_is c.in_ok-suffixes.suffixes c.if-not-suffixes.true told all.1)

pub returns : goal.returns
returns c =
    let pools = pools_of c.args.source.now in
    let told = subst (λ word. IsTrue c.in_ok-suffixes.suffixes ↔ (IsTrue (has_tag Contraction word) → ValuesPass pools (is_sound_in_context c.args.special.now pools c.args.c) word))
    c.unprefixed_word-unprefixed.ensures c.in_ok-suffixes.ensures in
    after_test_and_yes (is_sound_lone_word c.args.special.now pools c.args.c (lone_word pools c.args.word)) c.in_ok-suffixes.suffixes c.in_ok-prefixes.prefixes
    (ap (λ word. is_sound_lone_word c.args.special.now pools c.args.c word) (sym c.lone_word-lone.ensures)
    ∙ ap (λ p. is_sound_word c.args.special.now pools (Some p) c.args.c c.lone_word-lone.result) (sym c.own_primary.ensures)
    ∙ sym c.is_sound_word.ensures ∙ c.if-not-is_sound_word.false)
    c.if-not-suffixes.false told c.in_ok-prefixes.ensures
