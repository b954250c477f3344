use Rattle.std.proofs.Common.{◌≡◌, flat_map, take}
use Rattle.icu_char16trie.specs.Cursors.{units_of}
use Rattle.collate_words.proofs.units.units_forward.Given as goal

abbrev pub invariant-loop-character : goal.invariant-loop-character
invariant-loop-character l = l.units.items ≡ flat_map units_of (take l.character-index l.characters)
