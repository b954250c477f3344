use Rattle.std.proofs.Common.{◌-◌, drop}
use Rattle.icu_char16trie.specs.Cursors.{trie_units}
use Rattle.icu_collator_core.specs.TableMeaning.{pools_of}
use Rattle.icu_collator_core.proofs.lookups.LookedUpTextLemmas.{HasRead}
use Rattle.icu_collator_core.proofs.reading.suffixes.longest_text.Given as goal

abbrev pub invariant-loop-index : goal.invariant-loop-index
invariant-loop-index l = HasRead (pools_of l.source) (trie_units l.trie) (drop l.start l.list) (l.index - l.start) l.cursor l.longest
