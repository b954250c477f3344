use Rattle.icu_char16trie.specs.Cursors.{trie_units}
use Rattle.icu_collator_core.specs.Pools.{Pools}
use Rattle.icu_collator_core.proofs.lookups.ToldPrefixLemmas.{HasReadBack}
use Rattle.icu_collator_core.proofs.reading.prefixes.is_nearest_told.Given as goal

abbrev pub invariant-loop-n : goal.invariant-loop-n
invariant-loop-n l = (pools : Pools) → HasReadBack (trie_units l.trie) l.list l.index pools l.n l.cursor
