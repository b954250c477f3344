-- The canonical data that property types read.
use Rattle.std.specs.Prelude.{ℕ, List, [], ◌∷◌, Option, Some, None}
use Rattle.icu_normalizer_core.specs.declared.properties.classes.CanonicalCombiningClassMapBorrowed.{CanonicalCombiningClassMapBorrowed}
use Rattle.icu_normalizer_core.specs.declared.properties.composition.CanonicalCompositionBorrowed.{CanonicalCompositionBorrowed}
use Rattle.icu_normalizer_core.specs.declared.properties.decomposition.CanonicalDecompositionBorrowed.{CanonicalDecompositionBorrowed}
use Rattle.icu_normalizer_core.specs.BorrowedMeaning.{borrowed_meaning}
use Rattle.icu_normalizer_core.specs.Canonical.{Canonical}

abbrev pub class_map_data : CanonicalCombiningClassMapBorrowed → Canonical
class_map_data classes = borrowed_meaning classes.canonical

abbrev pub composition_data : CanonicalCompositionBorrowed → Canonical
composition_data composition = borrowed_meaning composition.canonical

abbrev pub decomposition_data : CanonicalDecompositionBorrowed → Canonical
decomposition_data decomposition = borrowed_meaning decomposition.canonical

-- a mapping as shaping takes it: two characters, with U+0000 for the second where there is one alone
abbrev pub shaped : List ℕ → Option (ℕ × ℕ)
shaped [] = None
shaped (first ∷ []) = Some (first, 0)
shaped (first ∷ second ∷ rest) = Some (first, second)
