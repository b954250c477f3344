use Rattle.icu_collator_core.specs.ContextFaults.{is_short}
use Rattle.icu_collator_core.specs.KeyTexts.{by_fold}
use Rattle.icu_collator_core.specs.Pools.{trie_of}
use Rattle.icu_collator_core.specs.TextFolds.{count_with, is_short_count}
use Rattle.icu_collator_core.proofs.checks.CheckedFoldLemmas.{short_told}
use Rattle.icu_collator_core.proofs.checks.WalkLemmas.{told_also}
use Rattle.icu_collator_core.proofs.check.suffixes.are_short.Goals as goal

pub returns : goal.returns
returns c =
    told_also (trie_of c.args.contexts.now c.args.index) (by_fold is_short_count count_with 0) is_short c.in_ok-all.all short_told c.in_ok-all.ensures
