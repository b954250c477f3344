use Rattle.std.proofs.Common.{sym, ◌∙◌}
use Rattle.icu_collator_core.specs.TableMeaning.{pools_of}
use Rattle.icu_collator_core.specs.WordForms.{is_own_word}
use Rattle.icu_collator_core.proofs.checks.CheckedTestLemmas.{after_no, of_test}
use Rattle.icu_collator_core.proofs.check.forms.is_unprefixed.Goals as goal

pub returns : goal.returns
returns c =
    let own = is_own_word (pools_of c.args.source.now) c.args.word in
    after_no own c.in_ok-yes.yes (sym c.is_own_word.ensures ∙ c.if-is_own_word.false) (of_test own) c.in_ok-yes.ensures
