use Rattle.std.proofs.Common.{take}
use Rattle.icu_normalizer_core.specs.FirstMappings.{HasFirstCompatibilities}
use Rattle.icu_normalizer_core.proofs.builder.one_mapping.first_compatibilities.Given as goal

abbrev pub invariant-loop-one : goal.invariant-loop-one
invariant-loop-one l = HasFirstCompatibilities (take l.one-index l.given) l.firsts
