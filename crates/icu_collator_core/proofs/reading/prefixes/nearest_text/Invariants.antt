use Rattle.icu_char16trie.specs.Cursors.{trie_units}
use Rattle.icu_collator_core.specs.ReadTexts.{characters_before}
use Rattle.icu_collator_core.specs.TableMeaning.{pools_of}
use Rattle.icu_collator_core.proofs.lookups.LookedUpTextLemmas.{HasRead}
use Rattle.icu_collator_core.proofs.reading.prefixes.nearest_text.Given as goal

abbrev pub invariant-loop-n : goal.invariant-loop-n
invariant-loop-n l = HasRead (pools_of l.source) (trie_units l.trie) (characters_before l.list l.index) l.n l.cursor l.longest
