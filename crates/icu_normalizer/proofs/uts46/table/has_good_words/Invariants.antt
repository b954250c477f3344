use Rattle.std.proofs.Common.{◌≡◌, ℕ, ◌<◌, true}
use Rattle.std.specs.Char.{IsScalar}
use Rattle.icu_normalizer.specs.Uts46.{has_good_word}
use Rattle.icu_normalizer.proofs.uts46.table.has_good_words.Given as goal

abbrev pub invariant-loop-code : goal.invariant-loop-code
invariant-loop-code l = (d : ℕ) → IsScalar d → d < l.code → has_good_word l.tables d ≡ true
