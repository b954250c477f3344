use Rattle.std.proofs.Common.{◌≡◌, map, take}
use Rattle.std.specs.Int.{cast_signed, w32}
use Rattle.icu_char16trie.specs.WrittenUnits.{keyed}
use Rattle.collate_words.proofs.contexts.pairs_of.Given as goal

abbrev pub invariant-loop-key : goal.invariant-loop-key
invariant-loop-key l = keyed l.pairs.items ≡ map (λ key. (key.units.items, cast_signed w32 key.word))
    (take l.key-index l.keys)
