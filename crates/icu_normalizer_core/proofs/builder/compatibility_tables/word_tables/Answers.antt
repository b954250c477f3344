use Rattle.std.proofs.Common.{arith}
use Rattle.icu_normalizer_core.specs.CanonicalMeaning.{meaning}
use Rattle.icu_normalizer_core.specs.SettledMappings.{steps_in}
use Rattle.icu_normalizer_core.proofs.building.FullWordMapLemmas.{table_plain, table_words}
use Rattle.icu_normalizer_core.proofs.building.MoreBlockLemmas.{narrow_blocks, wide_blocks}
use Rattle.icu_normalizer_core.proofs.builder.compatibility_tables.word_tables.Goals as goal

pub returns-clause-built : goal.returns-clause-built
returns-clause-built c =
    table_words (steps_in c.args.over) (meaning c.args.over.tables.now).class c.in-Ok.made.scalars24.items c.args.named.now c.in-Ok.made.words c.in_ok-tables.tables
    c.in-Ok.ensures.words c.requires.others c.in_ok-tables.ensures.trie c.in_ok-tables.ensures.scalars16 c.in_ok-tables.ensures.scalars24

pub returns-clause-plain : goal.returns-clause-plain
returns-clause-plain c =
    table_plain (steps_in c.args.over) (meaning c.args.over.tables.now).class c.in-Ok.made.scalars24.items c.args.named.now c.in-Ok.made.words c.in_ok-tables.tables
    c.in-Ok.ensures.words c.in_ok-tables.ensures.trie

pub packed-requires-clause-wide : goal.packed-requires-clause-wide
packed-requires-clause-wide c = omega (arith, wide_blocks _ c.args.named.now c.in-Ok.made.words c.in-Ok.ensures.words.right, c.requires.wide)

pub packed-requires-clause-narrow : goal.packed-requires-clause-narrow
packed-requires-clause-narrow c = omega (arith, narrow_blocks _ c.args.named.now c.in-Ok.made.words c.in-Ok.ensures.words.right, c.requires.narrow)
