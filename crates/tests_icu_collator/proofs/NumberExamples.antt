-- Some whole numbers.
use Rattle.std.proofs.Common.{ℕ, ◌<◌, [], ◌∷◌, arith}
use Rattle.std.proofs.lemmas.List.Elements.{All-from_recursion}
use Rattle.std.specs.List.{AllByRecursion}
use Rattle.icu_collator_core.specs.Numbers.{significant}
use Rattle.icu_collator_core.specs.WholeNumbers.{IsWholeNumber}

pub one_digit : (d : ℕ) → d < 10 → IsWholeNumber (d ∷ [])
unfolding significant
one_digit d h =
    let each : AllByRecursion (λ d. d < 10) (d ∷ []) = (h, tt)
    in record { below_ten = All-from_recursion (λ d. d < 10) (d ∷ []) each; filled = omega arith; short = omega arith }

pub ten_is_whole : IsWholeNumber (1 ∷ 0 ∷ [])
unfolding significant
ten_is_whole =
    let each : AllByRecursion (λ d. d < 10) (1 ∷ 0 ∷ []) = (omega arith, (omega arith, tt))
    in record { below_ten = All-from_recursion (λ d. d < 10) (1 ∷ 0 ∷ []) each; filled = omega arith; short = omega arith }

pub padded_is_whole : IsWholeNumber (0 ∷ 0 ∷ 7 ∷ [])
unfolding significant
padded_is_whole =
    let each : AllByRecursion (λ d. d < 10) (0 ∷ 0 ∷ 7 ∷ []) = (omega arith, (omega arith, (omega arith, tt)))
    in record { below_ten = All-from_recursion (λ d. d < 10) (0 ∷ 0 ∷ 7 ∷ []) each; filled = omega arith; short = omega arith }
