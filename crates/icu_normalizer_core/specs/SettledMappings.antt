-- What canonical and compatibility steps leave together, found mapping by mapping over canonical tables: a mapping is settled where it is known what
-- they leave of it, in its first nine characters.
use Rattle.std.specs.Prelude.{◌≡◌, ℕ, ◌-◌, ◌<◌, ◌≤◌, ◌⊎◌, ◌^◌, true, false, cond, nat_eq, sum_by, List, [], ◌∷◌, ◌++◌, length, map, take, flat_map, slice_get, Option, Some, None}
use Rattle.std.specs.List.{All, IsDistinct}
use Rattle.std.specs.Char.{IsScalar}
use Rattle.std.specs.Option.{is_some}
use Rattle.icu_normalizer_core.specs.declared.builder.given.GivenCompatibility.{GivenCompatibility}
use Rattle.icu_normalizer_core.specs.declared.builder.given.GivenClass.{GivenClass}
use Rattle.icu_normalizer_core.specs.declared.builder.given.GivenMapping.{GivenMapping}
use Rattle.icu_normalizer_core.specs.declared.builder.mappings.Mappings.{Mappings}
use Rattle.icu_normalizer_core.specs.declared.canonical.check.left.Left.{Left}
use Rattle.icu_normalizer_core.specs.BuiltIn.{built_in_compatibility_step, built_in_step, is_built_in}
use Rattle.icu_normalizer_core.specs.Canonical.{Leaves, IsFree}
use Rattle.icu_normalizer_core.specs.CanonicalFaults.{IsAccepted}
use Rattle.icu_normalizer_core.specs.CanonicalMaps.{first_mapping}
use Rattle.icu_normalizer_core.specs.CanonicalMeaning.{lists_of, meaning}
use Rattle.icu_normalizer_core.specs.CanonicalWords.{is_word, is_inside, class_of_word, full_of_word}
use Rattle.icu_normalizer_core.specs.CharacterWords.{HasRightWords, built_in_named, unnamed_word}
use Rattle.icu_codepointtrie.specs.CodePointMaps.{CodePointMap}
use Rattle.icu_normalizer_core.specs.CompatibilityMaps.{HaveOneCompatibility, all_steps, first_given}
use Rattle.icu_normalizer_core.specs.GivenCompatibilities.{IsOfCharacters}
use Rattle.icu_normalizer_core.specs.ListRoom.{list_room}
use Rattle.icu_normalizer_core.specs.Settled.{left_items, IsAmong}
use Rattle.icu_normalizer_core.specs.Words.{WordLists}

-- the steps of canonical tables and of given mappings together
abbrev pub steps_in : Mappings → ℕ → List ℕ
steps_in over = all_steps (meaning over.tables.now).step over.given.now

-- each mapping that is given stands on a starter, what is built in aside
abbrev pub AreOnStarters : (ℕ → ℕ) → List GivenCompatibility → Type 0
AreOnStarters class given = All (λ g. is_built_in g.character ≡ false → class g.character ≡ 0) given

-- each character that is given has one mapping, of one kind, and stands on a starter
pub record KeepOneMapping (mappings : List GivenMapping) (class : ℕ → ℕ) (given : List GivenCompatibility) : Type 0 where
  pub one_mapping : HaveOneCompatibility given
  pub apart : All (λ g. is_built_in g.character ≡ false → first_mapping mappings g.character ≡ None) given
  pub starters : AreOnStarters class given

-- mappings of characters on starters, over accepted tables
pub record IsSound (over : Mappings) : Type 0 where
  pub accepted : IsAccepted (lists_of over.tables.now)
  pub given : All IsOfCharacters over.given.now
  pub starters : AreOnStarters (meaning over.tables.now).class over.given.now

-- the characters are the first nine of what steps leave of the text
abbrev pub StartsLeft : (ℕ → List ℕ) → List ℕ → Left → Type 0
StartsLeft step text left = (list : List ℕ) × Leaves step text list × (left_items left ≡ take 9 list)

-- the mapping at an index
abbrev pub mapping_at : List GivenCompatibility → ℕ → List ℕ
mapping_at given index = elim (slice_get given index) [ Some g ↦ g.mapping.items | None ↦ [] ]

-- what is known is right
pub record AreMappingStarts (step : ℕ → List ℕ) (given : List GivenCompatibility) (settled : List (Option Left)) : Type 0 where
  pub count : length settled ≡ length given
  pub each : (i : ℕ) (left : Left) → slice_get settled i ≡ Some (Some left) → StartsLeft step (mapping_at given i) left

-- the character has a given mapping that isn't settled
abbrev pub IsOpenMapping : List GivenCompatibility → List (Option Left) → ℕ → Type 0
IsOpenMapping given settled c =
    IsFree c × (built_in_compatibility_step c ≡ None)
    × ((index : ℕ) × (index < length given) × (first_given given c ≡ slice_get given index) × (slice_get settled index ≡ Some None))

-- canonical steps leave such a character of a text
abbrev pub HasOpen : (ℕ → List ℕ) → List GivenCompatibility → List (Option Left) → List ℕ → Type 0
HasOpen full given settled text = (c : ℕ) × IsAmong (flat_map full text) c × IsOpenMapping given settled c

-- no more can be settled
abbrev pub IsAllSettled : (ℕ → List ℕ) → List GivenCompatibility → List (Option Left) → Type 0
IsAllSettled full given settled = (i : ℕ) → i < length settled → slice_get settled i ≡ Some None → HasOpen full given settled (mapping_at given i)

-- steps from a character don't end, or leave over eight characters
abbrev pub HasBadLeft : (ℕ → List ℕ) → Type 0
HasBadLeft step = (c : ℕ) × IsScalar c × ((list : List ℕ) → Leaves step (c ∷ []) list → 8 < length list)

-- the word says of the character its class, and what steps leave of it
pub record IsFullWord (step : ℕ → List ℕ) (k : ℕ) (scalars24 : List ℕ) (c word : ℕ) : Type 0 where
  pub fits : word < 2 ^ 30
  pub form : is_word c word ≡ true
  pub inside : is_inside [] scalars24 word ≡ true
  pub class : class_of_word c word ≡ k
  pub full : Leaves step (c ∷ []) (full_of_word [] scalars24 c word)

-- and does so when scalars24 grows at its end
abbrev pub KeepsFullWord : (ℕ → List ℕ) → ℕ → List ℕ → ℕ → ℕ → Type 0
KeepsFullWord step k scalars24 c word = (more : List ℕ) → IsFullWord step k (scalars24 ++ more) c word

-- the characters that are named by what is built in, but Hangul, or given
abbrev pub named_with : List GivenClass → List GivenMapping → List GivenCompatibility → List ℕ
named_with classes mappings given =
    (((0xff9e ∷ 0xff9f ∷ built_in_named) ++ map (λ g. g.character) classes) ++ map (λ g. g.character) mappings) ++ map (λ g. g.character) given

-- the list has these characters
abbrev pub HasAllNamed : List GivenClass → List GivenMapping → List GivenCompatibility → List ℕ → Type 0
HasAllNamed classes mappings given list = (c : ℕ) → IsAmong (named_with classes mappings given) c → IsAmong list c

-- the characters that are named by what is built in, but Hangul, and scalar values, each once
pub record IsBehindBuiltIn (list : List ℕ) : Type 0 where
  pub named : List ℕ
  pub distinct : IsDistinct nat_eq named
  pub scalars : All IsScalar named
  pub is : list ≡ (0xff9e ∷ 0xff9f ∷ []) ++ (built_in_named ++ named)

-- how many slots the full list of a character takes at most; that of one with a built-in mapping takes none
abbrev pub full_room : (ℕ → List ℕ) → ℕ → ℕ
full_room step c = cond (is_some (built_in_step c)) 0 (list_room step (step c))

-- the words of characters are right, also when scalars24 grows
pub record AreRightSoFar (step : ℕ → List ℕ) (class : ℕ → ℕ) (scalars24 done : List ℕ) (words : CodePointMap ℕ) : Type 0 where
  pub right : HasRightWords (λ c word. (word < 2 ^ 30) × (IsScalar c → KeepsFullWord step (class c) scalars24 c word)) done words
  pub size : length scalars24 ≤ sum_by (full_room step) done

-- the word as none is set is right of each character outside a list
abbrev pub AreOthersUnnamed : (ℕ → List ℕ) → (ℕ → ℕ) → List ℕ → Type 0
AreOthersUnnamed step class named =
    (scalars24 : List ℕ) (c : ℕ) → IsScalar c → (IsAmong named c → ⊥) → IsFullWord step (class c) scalars24 c (unnamed_word c)

-- each character has its word
pub record AreFullWords (step : ℕ → List ℕ) (class : ℕ → ℕ) (words : WordLists) : Type 0 where
  pub has_word : (c : ℕ) → IsScalar c → words.has_word c ≡ true
  pub scalars16 : words.scalars16 ≡ []
  pub each : (c : ℕ) → IsScalar c → IsFullWord step (class c) words.scalars24 c (words.word c)

-- there is a character of which no word is right, or full lists of these characters may take more slots than words name
abbrev pub LacksWords : (ℕ → List ℕ) → List ℕ → Type 0
LacksWords step named = HasBadLeft step ⊎ (2 ^ 14 - 1 ≤ sum_by (full_room step) named)
