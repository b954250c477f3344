-- The classes and the mappings that lines give, as maps of which canonical data and compatibility data are made.
use Rattle.std.specs.Prelude.{◌≡◌, ℕ, ◌≤◌, not, false, List, [], ◌∷◌, length, map, flat_map, Some, None}
use Rattle.std.specs.Char.{IsScalar}
use Rattle.icu_normalizer_core.specs.declared.builder.given.GivenClass.{GivenClass}
use Rattle.icu_normalizer_core.specs.declared.builder.given.GivenCompatibility.{GivenCompatibility}
use Rattle.icu_normalizer_core.specs.declared.builder.given.GivenMapping.{GivenMapping}
use Rattle.icu_normalizer_core.specs.Canonical.{Leaves}
use Rattle.icu_normalizer_core.specs.CanonicalMaps.{CanonicalMaps}
use Rattle.icu_normalizer_core.specs.CompatibilityMaps.{AllMaps}
use Rattle.icu_normalizer_core.specs.Words.{WordLists, class_in, full_in}
use Rattle.collate_lines.specs.Record.{Record, class, mapping, compatibility}
use Rattle.collate_rules.specs.Meaning.{any_step, class_of}

-- the class that a line gives
abbrev pub classes_in : Record → List GivenClass
classes_in (class c k) = record { character = c; class = k } ∷ []
classes_in _ = []

-- the mapping that a line gives; two characters are composed unless an x keeps them out
abbrev pub mappings_in : Record → List GivenMapping
mappings_in (mapping c (d ∷ []) is_excluded) =
    record { character = c; first = d; second = None; is_composed = false } ∷ []
mappings_in (mapping c (d ∷ e ∷ []) is_excluded) =
    record { character = c; first = d; second = Some e; is_composed = not is_excluded } ∷ []
mappings_in _ = []

-- the classes and the mappings of all lines, in their order
abbrev pub maps_of : List Record → CanonicalMaps
maps_of records = record { classes = flat_map classes_in records; mappings = flat_map mappings_in records }

-- the compatibility mapping that a line gives, as its character and what it is mapped to
abbrev pub compatibilities_in : Record → List (ℕ × List ℕ)
compatibilities_in (compatibility c ds) = (c, ds) ∷ []
compatibilities_in _ = []

-- a compatibility mapping that a line gives is to one character at least
abbrev pub MapsToSome : Record → Type 0
MapsToSome (compatibility c ds) = 1 ≤ length ds
MapsToSome _ = Unit {0}

-- a compatibility mapping as its character and what it is mapped to
abbrev pub compatibility_pair : GivenCompatibility → ℕ × List ℕ
compatibility_pair g = (g.character, g.mapping.items)

-- Maps of both kinds are those of all lines, in their order. (A given compatibility mapping owns its list: several have one
-- character and list.)
pub record AreAllMapsOf (lines : List Record) (maps : AllMaps) : Type 0 where
  pub canonical : maps.canonical ≡ maps_of lines
  pub compatibilities : map compatibility_pair maps.compatibilities ≡ flat_map compatibilities_in lines

-- Compatibility words say what lines say of classes, and of mappings of both kinds. A full list is what steps of both kinds leave.
pub record AreWordsOf (lines : List Record) (words : WordLists) : Type 0 where
  pub class : (c : ℕ) → IsScalar c → class_in words c ≡ class_of lines c
  pub full : (c : ℕ) → IsScalar c → Leaves (any_step lines) (c ∷ []) (full_in words c)
