use Rattle.std.proofs.Common.{◌↔◌, ◌∷◌, subst}
use Rattle.std.specs.Bool.{IsTrue}
use Rattle.icu_normalizer_core.specs.BorrowedMeaning.{borrowed_meaning}
use Rattle.icu_collator_core.specs.declared.check.suffixes.Order.TheVariants.{Starters}
use Rattle.icu_collator_core.specs.ContextRules.{KeysPass, has_marks_last}
use Rattle.icu_collator_core.specs.KeyTexts.{by_fold}
use Rattle.icu_collator_core.specs.Pools.{trie_of}
use Rattle.icu_collator_core.specs.TextFolds.{is_ordered, order_with}
use Rattle.icu_collator_core.proofs.checks.CheckedFoldLemmas.{order_told}
use Rattle.icu_collator_core.proofs.checks.WalkLemmas.{told_same}
use Rattle.icu_collator_core.proofs.check.suffixes.have_marks_last.Goals as goal

pub returns : goal.returns
returns c =
    let canonical = borrowed_meaning c.args.canonical in
    let units = trie_of c.args.contexts.now c.args.index in
    told_same units (by_fold is_ordered (order_with canonical) (order_with canonical Starters c.args.c)) (λ cs. has_marks_last canonical (c.args.c ∷ cs))
    c.in_ok-all.all (order_told canonical c.args.c)
    (subst (λ start. IsTrue c.in_ok-all.all ↔ KeysPass (by_fold is_ordered (order_with canonical) start) units) c.fold_character-start.ensures c.in_ok-all.ensures)
