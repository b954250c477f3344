use Rattle.icu_normalizer_core.specs.CanonicalMeaning.{lists_of}
use Rattle.icu_normalizer_core.proofs.accepted.AcceptedTables.{full_scalars}
use Rattle.icu_normalizer_core.proofs.canonical.borrowed.CanonicalBorrowed.full_list.Goals as goal

pub full_list-requires : goal.full_list-requires
full_list-requires c = full_scalars (lists_of c.tables.result.now) c.tables.ensures.accepted c.args.c c.ranges.c.0
