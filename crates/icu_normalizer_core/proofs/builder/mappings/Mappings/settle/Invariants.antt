use Rattle.icu_normalizer_core.specs.Settled.{open_count}
use Rattle.icu_normalizer_core.specs.SettledMappings.{AreMappingStarts, steps_in}
use Rattle.icu_normalizer_core.proofs.builder.mappings.Mappings.settle.Given as goal

abbrev pub invariant-loop : goal.invariant-loop
invariant-loop l = AreMappingStarts (steps_in l.self) l.self.given.now l.settled.items

abbrev pub decreases-loop : goal.decreases-loop
decreases-loop l = open_count l.settled.items
