-- Compatibility mappings as they are given one by one, beside canonical maps. What they mean, and the rules that they keep.
use Rattle.std.specs.Prelude.{◌≡◌, ◌≢◌, ℕ, ◌<◌, ◌≤◌, Bool, true, false, cond, ◌==◌, ◌||◌, List, [], ◌∷◌, ◌++◌, length, flat_map, nat_eq, Option, Some, None}
use Rattle.std.specs.List.{All, find, list_any}
use Rattle.std.specs.Set.{distinct_count}
use Rattle.std.specs.Option.{is_some, unwrap_or}
use Rattle.std.specs.Char.{IsScalar}
use Rattle.std.specs.Str.{bytes_eq}
use Rattle.icu_normalizer_core.specs.declared.builder.given.GivenCompatibility.{GivenCompatibility}
use Rattle.icu_normalizer_core.specs.BuiltIn.{built_in_step, built_in_compatibility_step, is_jamo, is_syllable, is_built_in}
use Rattle.icu_normalizer_core.specs.Canonical.{Leaves}
use Rattle.icu_normalizer_core.specs.CanonicalFaults.{IsAccepted}
use Rattle.icu_normalizer_core.specs.CanonicalLists.{CanonicalLists, canonical_of}
use Rattle.icu_normalizer_core.specs.CanonicalMaps.{CanonicalMaps, AreMeaning, BeginsWithStarter, KeepCanonicalRules, KeepRules, KeepRulesWithin, class_of, first_mapping, named, step_of}
use Rattle.icu_normalizer_core.specs.CompatibilityFaults.{AreAcceptedWords}
use Rattle.icu_normalizer_core.specs.ListRoom.{HasRoom}
use Rattle.icu_normalizer_core.specs.Words.{WordLists, class_in, full_in}

-- canonical maps, and compatibility mappings in the order in which they were given
pub record AllMaps : Type 0 where
  pub canonical : CanonicalMaps
  pub compatibilities : List GivenCompatibility

-- what a builder was given, and how many different characters it takes
pub record BuilderMaps : Type 0 where
  pub limit : ℕ
  pub canonical : CanonicalMaps
  pub compatibilities : List GivenCompatibility

abbrev pub maps_in : BuilderMaps → AllMaps
maps_in given = record { canonical = given.canonical; compatibilities = given.compatibilities }

-- one more compatibility mapping
abbrev pub IsGivenTo : List GivenCompatibility → ℕ → List ℕ → List GivenCompatibility → Type 0
IsGivenTo old c mapping new = (g : GivenCompatibility) × (new ≡ old ++ g ∷ []) × (g.character ≡ c) × (g.mapping.items ≡ mapping)

-- ---- Meaning: what is built in, else what is given

-- the first mapping of a character
abbrev pub first_given : List GivenCompatibility → ℕ → Option GivenCompatibility
first_given given c = find (λ g. g.character == c) given

-- the compatibility mapping that counts of those that are given for a character
abbrev pub given_compatibility : List GivenCompatibility → ℕ → List ℕ
given_compatibility given c = elim (first_given given c) [ Some g ↦ g.mapping.items | None ↦ [] ]

-- the compatibility mapping of a character; none is given where it is built in that there is a canonical one or none
abbrev pub compatibility_step : List GivenCompatibility → ℕ → List ℕ
compatibility_step given c = unwrap_or (built_in_compatibility_step c) (cond (is_some (built_in_step c)) [] (given_compatibility given c))

-- a mapping, or another where that is none
abbrev pub else_mapped : List ℕ → List ℕ → List ℕ
else_mapped [] other = other
else_mapped (d ∷ ds) other = d ∷ ds

-- the canonical mapping of a character, or its compatibility mapping
abbrev pub all_steps : (ℕ → List ℕ) → List GivenCompatibility → ℕ → List ℕ
all_steps step given c = else_mapped (step c) (compatibility_step given c)

abbrev pub all_steps_of : AllMaps → ℕ → List ℕ
all_steps_of maps = all_steps (step_of maps.canonical) maps.compatibilities

-- Words say what maps say together with what is built in. A full list is what steps of both kinds leave.
pub record AreMeaningOf (maps : AllMaps) (words : WordLists) : Type 0 where
  pub class : (c : ℕ) → IsScalar c → class_in words c ≡ class_of maps.canonical c
  pub full : (c : ℕ) → IsScalar c → Leaves (all_steps_of maps) (c ∷ []) (full_in words c)

-- words are accepted over all canonical tables that are accepted and mean the maps
abbrev pub AreAcceptedOver : CanonicalMaps → WordLists → Type 0
AreAcceptedOver maps words = (lists : CanonicalLists) → IsAccepted lists → AreMeaning maps (canonical_of lists) → AreAcceptedWords lists words

-- ---- Rules

-- the characters that maps of both kinds name
abbrev pub all_named : AllMaps → List ℕ
all_named maps = named maps.canonical ++ flat_map (λ g. g.character ∷ g.mapping.items) maps.compatibilities

-- a mapping of the character is given, of either kind, and none is built in
abbrev pub IsMappedAtAll : AllMaps → ℕ → Type 0
IsMappedAtAll maps c = (is_built_in c ≡ false) × (all_steps_of maps c ≢ [])

-- whether a compatibility mapping says exactly what is built in
abbrev pub is_built_in_compatibility : GivenCompatibility → Bool
is_built_in_compatibility g = elim (built_in_compatibility_step g.character) [ Some ds ↦ bytes_eq g.mapping.items ds | None ↦ false ]

-- no character has two compatibility mappings that differ: each is the first of its character
abbrev pub HaveOneCompatibility : List GivenCompatibility → Type 0
HaveOneCompatibility given = All (λ g. given_compatibility given g.character ≡ g.mapping.items) given

-- no character has mappings of both kinds, what is built in aside
abbrev pub AreApart : AllMaps → Type 0
AreApart maps = All (λ g. is_built_in g.character ≡ false → first_mapping maps.canonical.mappings g.character ≡ None) maps.compatibilities

-- The rules of compatibility mappings (docs/RECORDS.md, C1 to C9).
pub record KeepCompatibleRules (maps : AllMaps) : Type 0 where
  -- C1: a character has one mapping, of one kind, and it stands on a starter
  pub one_mapping : HaveOneCompatibility maps.compatibilities
  pub apart : AreApart maps
  pub starters : All (λ g. is_built_in g.character ≡ false → class_of maps.canonical g.character ≡ 0) maps.compatibilities
  -- C2: the steps of both kinds from each character end
  pub ends : (c : ℕ) → IsScalar c → (list : List ℕ) × Leaves (all_steps_of maps) (c ∷ []) list
  -- C4: the full list of a mapped character begins with a starter and has at most eight characters
  pub full_lists : (c : ℕ) (list : List ℕ) → IsScalar c → IsMappedAtAll maps c → Leaves (all_steps_of maps) (c ∷ []) list
      → (length list ≤ 8) × BeginsWithStarter maps.canonical list
  -- C7: a character below U+00A0 is unmapped
  pub unmapped : (c : ℕ) → c < 0xa0 → compatibility_step maps.compatibilities c ≡ []
  -- C8: what is built in isn't contradicted
  pub built_ins : All (λ g. is_built_in g.character ≡ true → is_built_in_compatibility g ≡ true) maps.compatibilities
  -- C9: no mapping but those built in names a jamo or a syllable
  pub letters : All (λ g. is_built_in_compatibility g ≡ false → list_any (λ d. is_jamo d || is_syllable d) (g.character ∷ g.mapping.items) ≡ false) maps.compatibilities

-- the rules, and the limit on what is named
pub record KeepCompatibilityRules (maps : AllMaps) : Type 0 where
  pub few : distinct_count nat_eq (all_named maps) ≤ 150
  pub rules : KeepCompatibleRules maps
  pub open rules use *

-- the rules, a limit on what is named, and the room of tables, which 150 characters never lack
pub record KeepCompatibilityRulesWithin (limit : ℕ) (maps : AllMaps) : Type 0 where
  pub few : distinct_count nat_eq (all_named maps) ≤ limit
  pub room : HasRoom (all_steps_of maps) (IsMappedAtAll maps) (all_named maps)
  pub rules : KeepCompatibleRules maps
  pub open rules use *

-- the rules of canonical and of compatibility mappings
abbrev pub KeepEachRule : AllMaps → Type 0
KeepEachRule maps = KeepCanonicalRules maps.canonical × KeepCompatibleRules maps

-- these, and the limits
abbrev pub KeepAllRules : AllMaps → Type 0
KeepAllRules maps = KeepRules maps.canonical × KeepCompatibilityRules maps

abbrev pub KeepAllRulesWithin : ℕ → AllMaps → Type 0
KeepAllRulesWithin limit maps = KeepRulesWithin limit maps.canonical × KeepCompatibilityRulesWithin limit maps
