use Rattle.icu_normalizer_core.proofs.building.MappingReadLemmas.{full_scalars}
use Rattle.icu_normalizer_core.proofs.builder.mappings.Mappings.needed_by.Goals as goal

pub full_list-d-items-requires : goal.full_list-d-items-requires
full_list-d-items-requires c = full_scalars c.args.self c.requires.sound c.args.c c.ranges.c.0
