use Rattle.std.proofs.Common.{drop, take}
use Rattle.icu_char16trie.specs.Cursors.{trie_units}
use Rattle.icu_collator_core.specs.ReadTexts.{IsAtText}
use Rattle.icu_collator_core.proofs.reading.marks.cursor_behind.Given as goal

abbrev pub invariant-loop-i : goal.invariant-loop-i
invariant-loop-i l = IsAtText (trie_units l.trie) (take l.i (drop l.start l.list)) l.cursor
