use Rattle.std.proofs.Common.{sym, ◌∙◌}
use Rattle.icu_collator_core.specs.TableMeaning.{pools_of}
use Rattle.icu_collator_core.specs.WordIndices.{has_digit_word, has_items}
use Rattle.icu_collator_core.proofs.checks.CheckedTestLemmas.{after_tests}
use Rattle.icu_collator_core.proofs.check.indices.is_unprefixed_inside.Goals as goal

pub returns : goal.returns
returns c =
    let pools = pools_of c.args.source.now in
    after_tests (has_items pools c.args.word) (has_digit_word pools c.args.word) c.in_ok-yes.yes
    (sym c.has_items.ensures ∙ c.if-not-has_items.false)
    (sym c.has_digit_word.ensures ∙ c.if-not-has_digit_word.false)
    c.in_ok-yes.ensures
