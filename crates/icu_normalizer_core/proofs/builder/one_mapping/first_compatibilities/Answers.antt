use Rattle.icu_normalizer_core.proofs.building.FirstMappingLemmas.{compatibility_noted}
use Rattle.icu_normalizer_core.proofs.builder.one_mapping.first_compatibilities.Goals as goal

pub loop-one-preserved : goal.loop-one-preserved
loop-one-preserved c =
    compatibility_noted c.args.given.now c.loop-one.one-index _ _ c.loop-one.firsts c.note_compatibility.new.firsts c.loop-one-test.true c.one-item.is c.loop-one.invariant
    c.in_ok-note_compatibility.ensures
