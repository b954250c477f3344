use Rattle.std.proofs.Common.{ℕ, ◌<◌, slice_index_or}
use Rattle.icu_normalizer_core.specs.CharacterWords.{class_with}
use Rattle.icu_normalizer_core.proofs.builder.built_words.are_classes.Given as goal

abbrev pub invariant-loop-c : goal.invariant-loop-c
invariant-loop-c l = (k d : ℕ) → k < l.c-index → class_with l.classes.given.now (slice_index_or l.characters k d) < 255
