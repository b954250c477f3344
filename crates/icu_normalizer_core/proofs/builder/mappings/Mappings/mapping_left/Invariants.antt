use Rattle.std.proofs.Common.{take}
use Rattle.icu_normalizer_core.specs.SettledMappings.{StartsLeft, steps_in}
use Rattle.icu_normalizer_core.proofs.builder.mappings.Mappings.mapping_left.Given as goal

abbrev pub invariant-loop-c : goal.invariant-loop-c
invariant-loop-c l = StartsLeft (steps_in l.self) (take l.c-index l.mapping) l.left
