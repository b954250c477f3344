use Rattle.icu_normalizer_core.proofs.building.FirstMappingLemmas.{HasIndicesTo}
use Rattle.icu_normalizer_core.proofs.builder.mappings.first_indices.Given as goal

abbrev pub invariant-loop-index : goal.invariant-loop-index
invariant-loop-index l = HasIndicesTo l.given l.index l.indices
