use Rattle.std.proofs.Common.{arith}
use Rattle.icu_normalizer_core.specs.CharacterWords.{IsWordOf, class_with}
use Rattle.icu_normalizer_core.proofs.building.BuiltTableLemmas.{plain_read, word_read}
use Rattle.icu_normalizer_core.proofs.building.MoreBlockLemmas.{narrow_blocks, wide_blocks}
use Rattle.icu_normalizer_core.proofs.builder.tables.word_trie.Goals as goal

pub returns-clause-words : goal.returns-clause-words
returns-clause-words c =
    word_read c.args.classes.now.given.now c.args.mappings.now c.args.steps.now c.args.lists.now.scalars24.items c.args.characters.now c.in_ok-words.words c.in_ok-trie.trie
    c.in_ok-words.ensures c.requires.named c.requires.steps c.in_ok-trie.ensures

pub returns-clause-plain : goal.returns-clause-plain
returns-clause-plain c =
    plain_read (λ x word. IsWordOf (class_with c.args.classes.now.given.now x) c.args.steps.now c.args.lists.now.scalars24.items x word) c.args.characters.now c.in_ok-words.words c.in_ok-trie.trie
    (λ x word right. right.fits) c.in_ok-words.ensures c.in_ok-trie.ensures

pub trie_of-requires-clause-wide : goal.trie_of-requires-clause-wide
trie_of-requires-clause-wide c = omega (arith, wide_blocks _ c.args.characters.now c.in_ok-words.words c.in_ok-words.ensures, c.requires.wide)

pub trie_of-requires-clause-narrow : goal.trie_of-requires-clause-narrow
trie_of-requires-clause-narrow c = omega (arith, narrow_blocks _ c.args.characters.now c.in_ok-words.words c.in_ok-words.ensures, c.requires.narrow)
