use Rattle.std.proofs.Common.{refl}
use Rattle.icu_normalizer_core.proofs.building.FirstMappingLemmas.{mapping_noted}
use Rattle.icu_normalizer_core.proofs.builder.one_mapping.first_mappings.Goals as goal

pub loop-given-preserved : goal.loop-given-preserved
loop-given-preserved c =
    mapping_noted c.args.mappings.now c.loop-given.given-index _ _ c.loop-given.firsts c.note_mapping.new.firsts c.loop-given-test.true refl c.loop-given.invariant
    c.in_ok-note_mapping.ensures
