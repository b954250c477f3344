use Rattle.icu_normalizer_core.specs.CanonicalMeaning.{meaning}
use Rattle.collate_index.proofs.making.IndexMadeLemmas.{refused_for_memory}
use Rattle.collate_index.proofs.collators.checked_tables.Goals as goal

pub memory_of-requires : goal.memory_of-requires
memory_of-requires c = refused_for_memory (meaning c.args.canonical) c.args.tables c.in-Err.fault c.in-Err.ensures c.requires
