use Rattle.std.proofs.Common.{◌≡◌, ◌++◌, map, take}
use Rattle.collate_words.specs.ShortWords.{bits_of}
use Rattle.collate_words.proofs.own_words.append_bits.Given as goal

abbrev pub invariant-loop-element : goal.invariant-loop-element
invariant-loop-element l = l.list.items ≡ l.initial.list.items ++ map bits_of (take l.element-index l.elements)
