use Rattle.std.proofs.Common.{◌||◌, sym, ◌∙◌}
use Rattle.icu_collator_core.specs.TableMeaning.{pools_of}
use Rattle.icu_collator_core.specs.WordForms.{is_digit_word, is_fallback}
use Rattle.icu_collator_core.proofs.checks.CheckedTestLemmas.{after_no, neither, of_test}
use Rattle.icu_collator_core.proofs.check.forms.is_word.Goals as goal

pub returns : goal.returns
returns c =
    let fallback = is_fallback c.args.layer c.args.word in
    let digit = is_digit_word (pools_of c.args.source.now) c.args.word in
    after_no (fallback || digit) c.in_ok-prefixed.prefixed
    (neither fallback digit (sym c.is_fallback.ensures ∙ c.if-is_fallback.false) (sym c.is_digit_word.ensures ∙ c.if-is_digit_word.false))
    (of_test (fallback || digit))
    (after_no c.in_ok-unprefixed.unprefixed c.in_ok-prefixed.prefixed c.if-unprefixed.false c.in_ok-unprefixed.ensures c.in_ok-prefixed.ensures)
