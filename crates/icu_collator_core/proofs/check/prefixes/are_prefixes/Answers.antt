use Rattle.icu_normalizer_core.specs.BorrowedMeaning.{borrowed_meaning}
use Rattle.icu_collator_core.specs.ContextRules.{is_prefix}
use Rattle.icu_collator_core.specs.KeyTexts.{by_fold}
use Rattle.icu_collator_core.specs.Pools.{trie_of}
use Rattle.icu_collator_core.specs.TableMeaning.{weights_of}
use Rattle.icu_collator_core.specs.TextFolds.{is_prefix_count, prefix_with}
use Rattle.icu_collator_core.proofs.checks.CheckedFoldLemmas.{prefix_told}
use Rattle.icu_collator_core.proofs.checks.WalkLemmas.{told_also}
use Rattle.icu_collator_core.proofs.check.prefixes.are_prefixes.Goals as goal

pub returns : goal.returns
returns c =
    let canonical = borrowed_meaning c.args.canonical in
    let digit = (weights_of canonical c.args.tables.now).digit in
    told_also (trie_of c.args.contexts.now c.args.index) (by_fold is_prefix_count (prefix_with canonical digit) 0) (is_prefix canonical digit) c.in_ok-all.all
    (prefix_told canonical digit) c.in_ok-all.ensures
