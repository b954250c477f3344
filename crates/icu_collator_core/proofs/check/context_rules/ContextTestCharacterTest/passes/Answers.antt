use Rattle.std.proofs.Common.{◌↔◌, subst}
use Rattle.std.specs.Bool.{IsTrue}
use Rattle.icu_codepointtrie.specs.Slots.{value_at}
use Rattle.icu_normalizer_core.specs.BorrowedMeaning.{borrowed_meaning}
use Rattle.icu_collator_core.specs.ContextFaults.{entry_in}
use Rattle.icu_collator_core.specs.ContextRules.{KeepsContextRules}
use Rattle.icu_collator_core.specs.TableMeaning.{weights_of}
use Rattle.icu_collator_core.proofs.checks.CheckedListLemmas.{word_same}
use Rattle.icu_collator_core.proofs.check.context_rules.ContextTestCharacterTest.passes.Goals as goal

pub returns : goal.returns
returns c =
    let canonical = borrowed_meaning c.args.self.now.canonical in
    subst
    (λ word. IsTrue c.in_ok-yes.yes ↔ KeepsContextRules canonical (weights_of canonical c.args.self.now.tables.now).digit (entry_in c.args.source.now word) c.args.c)
    (word_same c.get-word.result (value_at c.args.source.now.trie c.args.c) c.get-word.ensures.value)
    c.in_ok-yes.ensures
