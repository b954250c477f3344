use Rattle.std.proofs.Common.{◌≡◌, ℕ, ◌<◌, ◌≤◌, [], ◌∷◌}
use Rattle.icu_normalizer_core.specs.Words.{full_in, word_lists}
use Rattle.icu_normalizer_core.proofs.compatibility.check.full_list_tests.are_letters_own.Given as goal

abbrev pub invariant-loop-code : goal.invariant-loop-code
invariant-loop-code l = (d : ℕ) → 0x1100 ≤ d → d < l.code → full_in (word_lists l.words) d ≡ d ∷ []
