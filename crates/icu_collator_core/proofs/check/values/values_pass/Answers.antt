use Rattle.icu_char16trie.specs.KeyFolds.{AreFolded}
use Rattle.icu_char16trie.specs.UnitGrammar.{IsUnitTrie}
use Rattle.icu_collator_core.specs.Pools.{trie_of}
use Rattle.icu_collator_core.specs.WordForms.{keeps_nothing}
use Rattle.icu_collator_core.proofs.checks.CheckedTestLemmas.{shown}
use Rattle.icu_collator_core.proofs.checks.CheckedValueLemmas.{found_nothing, found_one, no_values_told, values_told}
use Rattle.icu_collator_core.proofs.check.values.values_pass.Goals as goal

pub returns-in-Some : goal.returns-in-Some
returns-in-Some g c =
    let units = trie_of c.args.contexts.now c.args.index in
    values_told keeps_nothing tt (g.T.ValueTest.test c.args.test.now) c.args.contexts.now c.args.index c.in-Some.values.items c.all_pass.result
    (found_one (IsUnitTrie units → ⊥) (λ values. AreFolded keeps_nothing tt units values.items) c.in_ok-found.found c.in-Some.values c.in-Some.is
    c.in_ok-found.ensures.values)
    c.values_of.ensures.bound c.all_pass.ensures

pub returns-in-None : goal.returns-in-None
returns-in-None g c =
    let units = trie_of c.args.contexts.now c.args.index in
    shown (no_values_told (g.T.ValueTest.test c.args.test.now) units
    (found_nothing (IsUnitTrie units → ⊥) (λ values. AreFolded keeps_nothing tt units values.items) c.in_ok-found.found c.in-None.is c.in_ok-found.ensures.values))
