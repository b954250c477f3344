use Rattle.std.proofs.Common.{◌↔◌, sym, subst}
use Rattle.std.specs.Bool.{IsTrue}
use Rattle.icu_normalizer_core.specs.BorrowedMeaning.{borrowed_meaning}
use Rattle.icu_collator_core.specs.ContextRules.{AreFlagsTrue}
use Rattle.icu_collator_core.specs.Pools.{trie_of}
use Rattle.icu_collator_core.proofs.checks.FlagLemmas.{flags_told}
use Rattle.icu_collator_core.proofs.check.flags.are_flags_true.Goals as goal

pub returns : goal.returns
returns c =
    let canonical = borrowed_meaning c.args.canonical in
    let units = trie_of c.args.contexts.now c.args.index in
    subst (λ yes. IsTrue yes ↔ AreFlagsTrue canonical c.args.word units) (sym c.are_flags_set-yes.ensures)
    (flags_told canonical c.args.word units c.in_ok-all_begin.all_begin c.in_ok-none_ends.none_ends c.in_ok-none_holds.none_holds
    c.in_ok-all_begin.ensures c.in_ok-none_ends.ensures c.in_ok-none_holds.ensures)
