-- Why a list is refused as a set of code points.
use Rattle.std.specs.Prelude.{◌≡◌, ℕ, List}
use Rattle.icu_collections_sets.specs.CodePoints.{IsInversionList}
use Rattle.icu_collections_sets.specs.declared.codepointinvlist.inversion_list.SetError.{SetError}
use Rattle.icu_collections_sets.specs.declared.codepointinvlist.inversion_list.SetError.TheVariants.{Invalid, Memory}

abbrev pub IsRefusedSlice : List ℕ → SetError → Type 0
IsRefusedSlice list (Invalid error) = (¬ IsInversionList list) × (error.0 ≡ list)
IsRefusedSlice list Memory = Unit {0}
