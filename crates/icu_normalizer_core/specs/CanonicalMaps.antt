-- Canonical data as they are given one by one: classes, and mappings of which some are composed. What they mean, and the rules that they keep.
use Rattle.std.specs.Prelude.{◌≡◌, ◌≢◌, ℕ, ◌<◌, ◌≤◌, ◌⊎◌, Bool, true, false, cond, not, ◌==◌, ◌&&◌, ◌||◌, List, [], ◌∷◌, ◌++◌, length, map, flat_map, nat_eq, Option, Some, None, IfSome}
use Rattle.std.specs.List.{All, Contains, find, list_any}
use Rattle.std.specs.Set.{distinct_count}
use Rattle.std.specs.Option.{is_some, unwrap_or}
use Rattle.std.specs.Char.{IsScalar}
use Rattle.std.specs.Str.{bytes_eq}
use Rattle.icu_normalizer_core.specs.declared.builder.given.GivenClass.{GivenClass}
use Rattle.icu_normalizer_core.specs.declared.builder.given.GivenMapping.{GivenMapping}
use Rattle.icu_normalizer_core.specs.BuiltIn.{built_in_class, built_in_step, is_built_in, is_jamo, is_syllable, is_within, syllable_of}
use Rattle.icu_normalizer_core.specs.Canonical.{Canonical, IsFree, Leaves, composed}
use Rattle.icu_normalizer_core.specs.ListRoom.{HasRoom}

-- what a character is mapped to: one character or two
abbrev pub mapping_given : GivenMapping → List ℕ
mapping_given g = g.first ∷ elim g.second [ Some d ↦ d ∷ [] | None ↦ [] ]

-- the classes and the mappings, in the order in which they were given
pub record CanonicalMaps : Type 0 where
  pub classes : List GivenClass
  pub mappings : List GivenMapping

-- ---- Meaning: what is built in, else what is given, else that the character is an unmapped starter

-- the first class that is given for a character
abbrev pub first_class : List GivenClass → ℕ → Option GivenClass
first_class classes c = find (λ g. g.character == c) classes

-- the class that counts of those that are given for a character
abbrev pub given_class : List GivenClass → ℕ → ℕ
given_class classes c = elim (first_class classes c) [ Some g ↦ g.class | None ↦ 0 ]

-- the first mapping that is given for a character
abbrev pub first_mapping : List GivenMapping → ℕ → Option GivenMapping
first_mapping mappings c = find (λ g. g.character == c) mappings

-- the mapping that counts of those that are given for a character
abbrev pub given_step : List GivenMapping → ℕ → List ℕ
given_step mappings c = elim (first_mapping mappings c) [ Some g ↦ mapping_given g | None ↦ [] ]

-- whether a mapping that isn't built in makes the character of these two
abbrev pub composes : ℕ → ℕ → GivenMapping → Bool
composes a b g = g.is_composed && (bytes_eq (mapping_given g) (a ∷ b ∷ []) && not (is_some (built_in_step g.character)))

-- the character that is given for two; of two, the first
abbrev pub given_pair : List GivenMapping → ℕ → ℕ → Option ℕ
given_pair mappings a b = elim (find (composes a b) mappings) [ Some g ↦ Some g.character | None ↦ None ]

abbrev pub class_of : CanonicalMaps → ℕ → ℕ
class_of maps c = unwrap_or (built_in_class c) (given_class maps.classes c)

abbrev pub step_of : CanonicalMaps → ℕ → List ℕ
step_of maps c = unwrap_or (built_in_step c) (given_step maps.mappings c)

abbrev pub pair_of : CanonicalMaps → ℕ → ℕ → Option ℕ
pair_of maps a b = elim (syllable_of a b) [ Some c ↦ Some c | None ↦ given_pair maps.mappings a b ]

-- Canonical data say what maps say together with what is built in. A full list is what mapping steps leave.
pub record AreMeaning (maps : CanonicalMaps) (canonical : Canonical) : Type 0 where
  pub class : (c : ℕ) → IsScalar c → canonical.class c ≡ class_of maps c
  pub step : (c : ℕ) → IsScalar c → canonical.step c ≡ step_of maps c
  pub full : (c : ℕ) → IsScalar c → Leaves (step_of maps) (c ∷ []) (canonical.full c)
  pub pair : (a b : ℕ) → IsScalar a → IsScalar b → canonical.pair a b ≡ pair_of maps a b

-- ---- Rules

-- the characters that maps name
abbrev pub named : CanonicalMaps → List ℕ
named maps = map (λ g. g.character) maps.classes ++ flat_map (λ g. g.character ∷ mapping_given g) maps.mappings

-- a mapping of the character is given, and none is built in
abbrev pub IsMapped : CanonicalMaps → ℕ → Type 0
IsMapped maps c = IsFree c × (given_step maps.mappings c ≢ [])

-- whether a mapping says exactly what is built in; a syllable alone is composed
abbrev pub is_built_in_mapping : GivenMapping → Bool
is_built_in_mapping g =
    let agrees = cond (is_syllable g.character) g.is_composed (not g.is_composed)
    in elim (built_in_step g.character) [ Some ds ↦ bytes_eq (mapping_given g) ds && agrees | None ↦ false ]

-- the first character of a list is a starter
abbrev pub BeginsWithStarter : CanonicalMaps → List ℕ → Type 0
BeginsWithStarter maps list = (d : ℕ) (ds : List ℕ) → list ≡ d ∷ ds → class_of maps d ≡ 0

-- two mappings that aren't built in compose the same two characters
abbrev pub ComposeAlike : GivenMapping → GivenMapping → Type 0
ComposeAlike g h = (a : ℕ) × (b : ℕ) × (composes a b g ≡ true) × (composes a b h ≡ true)

-- no character has two mappings that differ: each is the first of its character
abbrev pub HaveOneMapping : List GivenMapping → Type 0
HaveOneMapping mappings = All (λ g. first_mapping mappings g.character ≡ Some g) mappings

-- The rules of canonical data (docs/RECORDS.md, C1 to C9). Of the classes of a character the first counts, and only it is judged.
pub record KeepCanonicalRules (maps : CanonicalMaps) : Type 0 where
  -- C1: a character has one mapping, and it stands on a starter
  pub one_mapping : HaveOneMapping maps.mappings
  pub starters : (c : ℕ) → IsScalar c → IsMapped maps c → class_of maps c ≡ 0
  -- C2: the steps from each character end
  pub ends : (c : ℕ) → IsScalar c → (list : List ℕ) × Leaves (step_of maps) (c ∷ []) list
  -- C3: a class is 1 to 254, or built in
  pub classes : (c : ℕ) (g : GivenClass) → first_class maps.classes c ≡ Some g → ((0 < g.class) × (g.class ≤ 254)) ⊎ (built_in_class c ≡ Some g.class)
  -- C4: the full list of a mapped character begins with a starter and has at most eight characters
  pub full_lists : (c : ℕ) (list : List ℕ) → IsScalar c → IsMapped maps c → Leaves (step_of maps) (c ∷ []) list
      → (length list ≤ 8) × BeginsWithStarter maps list
  -- C5: two characters compose to one
  pub pairs : (g h : GivenMapping) → Contains maps.mappings g → Contains maps.mappings h → ComposeAlike g h → g.character ≡ h.character
  -- C6: the second of a composed pair is not below U+0300, and no vowel or trailing consonant
  pub seconds : (a b : ℕ) → All (λ g. composes a b g ≡ true → (0x300 ≤ b) × (is_within 0x1161 0x11ff b ≡ false)) maps.mappings
  -- C7: a character below U+0300 is a starter and its own composed list, one below U+00C0 unmapped
  pub low : (c : ℕ) → c < 0x300 → class_of maps c ≡ 0
  pub own : (canonical : Canonical) → AreMeaning maps canonical → (c : ℕ) → c < 0x300 → composed canonical (c ∷ []) ≡ c ∷ []
  pub unmapped : (c : ℕ) → c < 0xc0 → step_of maps c ≡ []
  -- C8: what is built in isn't contradicted
  pub built_in_classes : (c : ℕ) (g : GivenClass) → first_class maps.classes c ≡ Some g → IfSome (built_in_class c) (λ k. g.class ≡ k)
  pub built_in_mappings : All (λ g. is_built_in g.character ≡ true → is_built_in_mapping g ≡ true) maps.mappings
  -- C9: no mapping but those built in names a jamo or a syllable
  pub letters : All (λ g. is_built_in_mapping g ≡ false → list_any (λ d. is_jamo d || is_syllable d) (g.character ∷ mapping_given g) ≡ false) maps.mappings

-- the rules, and the limit on what is named
pub record KeepRules (maps : CanonicalMaps) : Type 0 where
  pub few : distinct_count nat_eq (named maps) ≤ 150
  pub rules : KeepCanonicalRules maps
  pub open rules use *

-- the rules, a limit on what is named, and the room of tables, which 150 characters never lack
pub record KeepRulesWithin (limit : ℕ) (maps : CanonicalMaps) : Type 0 where
  pub few : distinct_count nat_eq (named maps) ≤ limit
  pub room : HasRoom (step_of maps) (IsMapped maps) (named maps)
  pub rules : KeepCanonicalRules maps
  pub open rules use *
