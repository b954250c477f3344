use Rattle.icu_normalizer_core.specs.SettledMappings.{steps_in}
use Rattle.icu_normalizer_core.proofs.settling.DepthLemmas.{looks_left}
use Rattle.icu_normalizer_core.proofs.settling.MappingDepthLemmas.{IsMappingWalk}
use Rattle.icu_normalizer_core.proofs.builder.mappings.Mappings.settle_in_depth.Given as goal

abbrev pub invariant-loop-index : goal.invariant-loop-index
invariant-loop-index l = IsMappingWalk (steps_in l.self) l.self.given.now l.settled l.visited.items l.path.items

abbrev pub decreases-loop-index : goal.decreases-loop-index
decreases-loop-index l = looks_left l.visited.items l.path.items
