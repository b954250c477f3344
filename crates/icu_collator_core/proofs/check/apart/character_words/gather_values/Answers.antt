use Rattle.std.proofs.Common.{subst}
use Rattle.icu_char16trie.specs.KeyFolds.{AreFolded}
use Rattle.icu_char16trie.specs.UnitGrammar.{IsUnitTrie}
use Rattle.icu_collator_core.specs.Pools.{trie_of}
use Rattle.icu_collator_core.specs.PrefixFaults.{HasValue}
use Rattle.icu_collator_core.specs.TableMeaning.{pools_of}
use Rattle.icu_collator_core.specs.WordForms.{keeps_nothing}
use Rattle.icu_collator_core.proofs.apart.GatheringLemmas.{HasEntry, no_values, values_read}
use Rattle.icu_collator_core.proofs.apart.GrowthLemmas.{grown_by_none, grown_same}
use Rattle.icu_collator_core.proofs.checks.CheckedValueLemmas.{found_nothing, found_one}
use Rattle.icu_collator_core.proofs.check.apart.character_words.gather_values.Goals as goal

pub returns-in_ok-gather_listed-in-Some : goal.returns-in_ok-gather_listed-in-Some
returns-in_ok-gather_listed-in-Some c =
    let pools = pools_of c.args.source.now in
    let units = trie_of pools.contexts c.index_of.result in
    grown_same (HasEntry c.in-Some.list.items) (HasValue pools c.args.word) c.args.words.now.items c.gather_listed.new.words.items
    (values_read pools c.args.word c.in-Some.list.items
    (subst (λ index. AreFolded keeps_nothing tt (trie_of pools.contexts index) c.in-Some.list.items) c.index_of.ensures.index
    (found_one (IsUnitTrie units → ⊥) (λ list. AreFolded keeps_nothing tt units list.items) c.in_ok-found.found c.in-Some.list c.in-Some.is
    c.in_ok-found.ensures.values))
    c.values_of.ensures.bound)
    c.in_ok-gather_listed-in-Some.ensures

pub returns-in-None : goal.returns-in-None
returns-in-None c =
    let pools = pools_of c.args.source.now in
    let units = trie_of pools.contexts c.index_of.result in
    grown_by_none (HasValue pools c.args.word) c.args.words.now.items
    (no_values pools c.args.word
    (subst (λ index. IsUnitTrie (trie_of pools.contexts index) → ⊥) c.index_of.ensures.index
    (found_nothing (IsUnitTrie units → ⊥) (λ list. AreFolded keeps_nothing tt units list.items) c.in_ok-found.found c.in-None.is c.in_ok-found.ensures.values)))
