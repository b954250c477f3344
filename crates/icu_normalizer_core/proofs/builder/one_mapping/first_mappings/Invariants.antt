use Rattle.std.proofs.Common.{take}
use Rattle.icu_normalizer_core.specs.FirstMappings.{HasFirstMappings}
use Rattle.icu_normalizer_core.proofs.builder.one_mapping.first_mappings.Given as goal

abbrev pub invariant-loop-given : goal.invariant-loop-given
invariant-loop-given l = HasFirstMappings (take l.given-index l.mappings) l.firsts
