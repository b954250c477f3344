-- Why there is no set of a range.
use Rattle.std.specs.Prelude.{◌≡◌, ℕ, ◌≤◌}
use Rattle.icu_collections_sets.specs.declared.codepointinvlist.char_range.FromRangeError.{FromRangeError}
use Rattle.icu_collections_sets.specs.declared.codepointinvlist.char_range.FromRangeError.TheVariants.{Range, Memory}

abbrev pub IsRefusedRange : ℕ → ℕ → FromRangeError → Type 0
IsRefusedRange from till (Range error) = (till ≤ from) × (error.0 ≡ from) × (error.1 ≡ till)
IsRefusedRange from till Memory = Unit {0}
