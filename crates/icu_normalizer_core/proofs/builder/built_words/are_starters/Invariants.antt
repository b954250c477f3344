use Rattle.std.proofs.Common.{◌≡◌, ℕ, ◌<◌}
use Rattle.icu_normalizer_core.specs.CharacterWords.{class_with}
use Rattle.icu_normalizer_core.specs.Settled.{key_at}
use Rattle.icu_normalizer_core.proofs.builder.built_words.are_starters.Given as goal

abbrev pub invariant-loop-index : goal.invariant-loop-index
invariant-loop-index l = (k : ℕ) → k < l.index → class_with l.classes.given.now (key_at l.steps k) ≡ 0
