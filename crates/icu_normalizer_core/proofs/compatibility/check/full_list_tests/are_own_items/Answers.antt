use Rattle.std.proofs.Common.{subst, arith}
use Rattle.icu_normalizer_core.specs.CompatibilityFaults.{IsOwnItem}
use Rattle.icu_normalizer_core.specs.Words.{word_lists}
use Rattle.icu_normalizer_core.proofs.compatibility.check.full_list_tests.are_own_items.Goals as goal

pub returns-clause-good : goal.returns-clause-good
returns-clause-good c = λ good w.
    let inside = w.1.1 in
    let end = c.loop-item-test.false in
    w.2 (subst (IsOwnItem (word_lists c.args.words)) w.1.2 (c.loop-item.invariant w.1.0 w.0 (omega (arith, inside, end))))
