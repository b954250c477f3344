use Rattle.icu_char16trie.specs.KeyFolds.{AreFolded}
use Rattle.icu_char16trie.specs.UnitGrammar.{IsUnitTrie}
use Rattle.icu_collator_core.specs.declared.check.walks.Reading.TheVariants.{Whole}
use Rattle.icu_collator_core.specs.KeyTexts.{read_unit}
use Rattle.icu_collator_core.specs.Pools.{trie_of}
use Rattle.icu_collator_core.proofs.checks.CheckedTestLemmas.{refuted}
use Rattle.icu_collator_core.proofs.checks.CheckedValueLemmas.{found_nothing, found_one}
use Rattle.icu_collator_core.proofs.checks.WalkLemmas.{keys_told}
use Rattle.icu_collator_core.proofs.check.walks.keys_pass.Goals as goal

pub returns-in-Some : goal.returns-in-Some
returns-in-Some g c =
    let onward = g.T.TextTest.onward c.args.test.now in
    let units = trie_of c.args.contexts.now c.args.index in
    keys_told onward (g.T.TextTest.test c.args.test.now) c.args.start units c.in-Some.readings.items c.are_passed.result
    (found_one (IsUnitTrie units → ⊥) (λ readings. AreFolded (read_unit onward) (Whole c.args.start) units readings.items) c.in_ok-found.found
    c.in-Some.readings c.in-Some.is c.in_ok-found.ensures.readings)
    c.are_passed.ensures

pub returns-in-None : goal.returns-in-None
returns-in-None g c =
    let onward = g.T.TextTest.onward c.args.test.now in
    let units = trie_of c.args.contexts.now c.args.index in
    refuted (λ pass.
    found_nothing (IsUnitTrie units → ⊥) (λ readings. AreFolded (read_unit onward) (Whole c.args.start) units readings.items) c.in_ok-found.found
    c.in-None.is c.in_ok-found.ensures.readings pass.0)
