use Rattle.std.proofs.Common.{◌↔◌, sym, ◌∙◌, subst}
use Rattle.std.specs.Bool.{IsTrue}
use Rattle.icu_codepointtrie.specs.Slots.{value_at}
use Rattle.icu_collator_core.specs.TableMeaning.{pools_of}
use Rattle.icu_collator_core.specs.WordForms.{IsWord, keeps_special}
use Rattle.icu_collator_core.proofs.checks.CheckedListLemmas.{word_same}
use Rattle.icu_collator_core.proofs.checks.CheckedTestLemmas.{after_test}
use Rattle.icu_collator_core.proofs.check.forms.WordTestCharacterTest.passes.Goals as goal

pub returns : goal.returns
returns c =
    subst (λ word. IsTrue c.in_ok-yes.yes ↔ (IsTrue (keeps_special c.args.c word) × IsWord c.args.layer (pools_of c.args.source.now) word))
    (word_same c.get-word.result (value_at c.args.source.now.trie c.args.c) c.get-word.ensures.value)
    (after_test (keeps_special c.args.c c.get-word.result) c.in_ok-yes.yes (sym c.keeps_special.ensures ∙ c.if-not-keeps_special.false) c.in_ok-yes.ensures)
