use Rattle.icu_normalizer_core.specs.CanonicalMeaning.{meaning}
use Rattle.icu_normalizer_core.specs.SettledMappings.{steps_in}
use Rattle.icu_normalizer_core.proofs.building.SettledMappingLemmas.{HasSettled}
use Rattle.icu_normalizer_core.proofs.builder.mappings.Mappings.settle_once.Given as goal

abbrev pub invariant-loop-index : goal.invariant-loop-index
invariant-loop-index l = HasSettled (meaning l.self.tables.now).full (steps_in l.self) l.self.given.now l.initial.settled l.settled l.more l.index
