use Rattle.std.proofs.Common.{take}
use Rattle.icu_normalizer_core.specs.CharacterWords.{HasWords}
use Rattle.icu_normalizer_core.proofs.builder.trie.words_of.Given as goal

abbrev pub invariant-loop-c : goal.invariant-loop-c
invariant-loop-c l = HasWords l.classes.given.now l.steps l.lists.scalars24.items (take l.c-index l.characters) l.words
