-- What the units of keys of contexts spell, folded one character after another.
use Rattle.std.specs.Prelude.{ℕ, Bool, false, cond, ◌&&◌, leb, List, fold}
use Rattle.icu_normalizer_core.specs.BuiltIn.{is_within}
use Rattle.icu_collator_core.specs.declared.check.walks.Reading.{Reading}
use Rattle.icu_collator_core.specs.declared.check.walks.Reading.TheVariants.{Whole, Half, Broken}
use Rattle.icu_collator_core.specs.ContextRules.{is_lower_half, is_upper_half, joined_halves}

module _ {A : Type 0} where
  -- what a unit more makes of what the units so far come to
  abbrev pub read_unit : (A → ℕ → A) → Reading A → ℕ → Reading A
  read_unit onward (Whole folded) unit =
      cond (is_within 0xd800 0xdfff unit) (cond (is_upper_half unit) (Half folded unit) Broken) (Whole (onward folded unit))
  read_unit onward (Half folded upper) unit =
      cond (is_upper_half upper && is_lower_half unit) (Whole (onward folded (joined_halves upper unit))) Broken
  read_unit onward Broken unit = Broken

  -- the same of units of 16 bits alone
  abbrev pub read_small : (A → ℕ → A) → Reading A → ℕ → Reading A
  read_small onward reading unit = cond (leb unit 0xffff) (read_unit onward reading unit) Broken

  -- units are whole characters that pass
  abbrev pub tells : (A → Bool) → Reading A → Bool
  tells passes (Whole folded) = passes folded
  tells passes (Half folded upper) = false
  tells passes Broken = false

  -- characters pass by what they are folded to
  abbrev pub by_fold : (A → Bool) → (A → ℕ → A) → A → List ℕ → Bool
  by_fold passes onward start cs = passes (fold onward start cs)
