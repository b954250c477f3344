-- The bytes after the lead byte, of a number of many digits.
use Rattle.std.specs.Prelude.{◌≡◌, ℕ, ◌+◌, ◌/◌, ◌%◌, true, cond, ◌==◌, leb, List, ◌∷◌, length}
use Rattle.std.specs.List.{list_all}
use Rattle.icu_collator_core.specs.Numbers.{pairs_of, without_last_zeros, pair_bytes}

-- values of digits
abbrev pub AreDigitValues : List ℕ → Type 0
AreDigitValues digits = list_all (λ d. leb d 9) digits ≡ true

-- digits with a zero before them where their number is odd
unfoldable pub evened : List ℕ → List ℕ
evened digits = cond ((length digits % 2) == 0) digits (0 ∷ digits)

-- how many pairs there are, then the pairs
unfoldable pub long_bytes : List ℕ → List ℕ
long_bytes digits = (128 + (length digits + 1) / 2) ∷ pair_bytes (without_last_zeros (pairs_of (evened digits)))
