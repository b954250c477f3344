use Rattle.std.proofs.Common.{take}
use Rattle.icu_normalizer_core.specs.CanonicalMeaning.{meaning}
use Rattle.icu_normalizer_core.specs.SettledMappings.{AreRightSoFar, steps_in}
use Rattle.icu_normalizer_core.proofs.builder.mappings.Mappings.full_words.Given as goal

abbrev pub invariant-loop-c : goal.invariant-loop-c
invariant-loop-c l = AreRightSoFar (steps_in l.self) (meaning l.self.tables.now).class l.scalars24.items (take l.c-index l.named) l.words
