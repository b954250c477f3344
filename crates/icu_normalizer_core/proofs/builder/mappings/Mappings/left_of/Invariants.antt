use Rattle.icu_normalizer_core.specs.SettledMappings.{IsSound}
use Rattle.icu_normalizer_core.proofs.building.MappingReadLemmas.{IsRead}
use Rattle.icu_normalizer_core.proofs.builder.mappings.Mappings.left_of.Given as goal

abbrev pub invariant-loop-d : goal.invariant-loop-d
invariant-loop-d l = (sound : IsSound l.fn.self) → IsRead l.fn.self sound l.fn.c l.left l.d-iterator
