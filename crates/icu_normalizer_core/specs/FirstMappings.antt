-- Maps of the first mapping that is given for each character.
use denote.Ref.{Bor}
use Rattle.std.specs.Prelude.{◌≡◌, ℕ, ◌<◌, List, [], length, slice_get, Option, Some, None, MatchOption, option_copied}
use Rattle.std.specs.BTreeMap.{BTreeMap, get}
use Rattle.std.specs.Ordering.{nat_cmp}
use Rattle.icu_normalizer_core.specs.declared.builder.given.GivenCompatibility.{GivenCompatibility}
use Rattle.icu_normalizer_core.specs.declared.builder.given.GivenMapping.{GivenMapping}
use Rattle.icu_normalizer_core.specs.CanonicalMaps.{first_mapping}
use Rattle.icu_normalizer_core.specs.CompatibilityMaps.{first_given}

-- a map has the first canonical mapping of each character
abbrev pub HasFirstMappings : List GivenMapping → BTreeMap ℕ GivenMapping → Type 0
HasFirstMappings mappings firsts = (c : ℕ) → get nat_cmp firsts c ≡ first_mapping mappings c

-- a map has the first compatibility mapping of each character
abbrev pub HasFirstCompatibilities : List GivenCompatibility → BTreeMap ℕ (Bor GivenCompatibility) → Type 0
HasFirstCompatibilities given firsts = (c : ℕ) → option_copied (get nat_cmp firsts c) ≡ first_given given c

-- a map has the index of the first compatibility mapping of each character
abbrev pub HasFirstIndices : List GivenCompatibility → BTreeMap ℕ ℕ → Type 0
HasFirstIndices given indices =
    (c : ℕ) → MatchOption (get nat_cmp indices c) (first_given given c ≡ None) (λ index. (index < length given) × (first_given given c ≡ slice_get given index))

-- the characters of a compatibility mapping, none without one
abbrev pub mapping_of : Option GivenCompatibility → List ℕ
mapping_of one = elim one [ Some g ↦ g.mapping.items | None ↦ [] ]
