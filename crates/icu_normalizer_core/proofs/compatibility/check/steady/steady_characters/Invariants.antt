use Rattle.std.proofs.Common.{◌≡◌, length}
use Rattle.icu_normalizer_core.specs.CanonicalMeaning.{lists_of}
use Rattle.icu_normalizer_core.specs.Compatibility.{compatibility_of}
use Rattle.icu_normalizer_core.specs.SteadyAnswers.{AreSteady}
use Rattle.icu_normalizer_core.specs.Words.{word_lists}
use Rattle.icu_normalizer_core.proofs.compatibility.check.steady.steady_characters.Given as goal

abbrev pub invariant-loop-code : goal.invariant-loop-code
invariant-loop-code l = record {
  count : length l.answers.items ≡ l.code;
  steady : AreSteady (compatibility_of (lists_of l.canonical) (word_lists l.words)) l.answers.items;
}
