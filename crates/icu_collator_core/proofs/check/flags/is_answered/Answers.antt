use Rattle.std.proofs.Common.{◌↔◌, subst}
use Rattle.std.specs.Bool.{IsTrue}
use Rattle.icu_normalizer_core.specs.BorrowedMeaning.{borrowed_meaning}
use Rattle.icu_collator_core.specs.ContextFaults.{answer}
use Rattle.icu_collator_core.specs.ContextRules.{KeysPass}
use Rattle.icu_collator_core.specs.KeyTexts.{by_fold}
use Rattle.icu_collator_core.specs.Pools.{trie_of}
use Rattle.icu_collator_core.specs.TextFolds.{answered_first, answered_with, is_yes}
use Rattle.icu_collator_core.proofs.checks.CheckedFoldLemmas.{answer_told}
use Rattle.icu_collator_core.proofs.checks.WalkLemmas.{told_same}
use Rattle.icu_collator_core.proofs.check.flags.is_answered.Goals as goal

pub returns : goal.returns
returns c =
    let canonical = borrowed_meaning c.args.canonical in
    let question = c.args.question in
    let units = trie_of c.args.contexts.now c.args.index in
    told_same units (by_fold is_yes (answered_with canonical question) (answered_first question)) (answer canonical question) c.in_ok-all.all
    (answer_told canonical question)
    (subst (λ start. IsTrue c.in_ok-all.all ↔ KeysPass (by_fold is_yes (answered_with canonical question) start) units) c.answered_first.ensures c.in_ok-all.ensures)
