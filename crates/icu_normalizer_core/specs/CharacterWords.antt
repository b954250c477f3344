-- The words of characters in tables that are built: what each says of its character.
use Rattle.std.specs.Prelude.{◌≡◌, ℕ, zero, suc, ◌-◌, ◌/◌, ◌<◌, ◌≤◌, ◌^◌, true, cond, List, [], ◌∷◌, ◌++◌, length, map, slice_index, sum_by}
use Rattle.std.specs.Option.{unwrap_or, IfSome}
use Rattle.icu_codepointtrie.specs.Blocks.{different_blocks}
use Rattle.icu_codepointtrie.specs.CodePointMaps.{CodePointMap, mapped}
use Rattle.icu_normalizer_core.specs.declared.builder.given.GivenClass.{GivenClass}
use Rattle.icu_normalizer_core.specs.declared.builder.given.GivenMapping.{GivenMapping}
use Rattle.icu_normalizer_core.specs.declared.builder.list_words.ListWords.{ListWords}
use Rattle.icu_normalizer_core.specs.BuiltIn.{built_in_class, is_syllable}
use Rattle.icu_normalizer_core.specs.Canonical.{Leaves, IsFree}
use Rattle.icu_normalizer_core.specs.CanonicalLists.{step_in}
use Rattle.icu_normalizer_core.specs.CanonicalMaps.{given_class}
use Rattle.icu_normalizer_core.specs.CanonicalWords.{is_word, is_inside, class_of_word, full_of_word, built_in_full}
use Rattle.icu_normalizer_core.specs.ListRoom.{list_room}
use Rattle.icu_normalizer_core.specs.ListWords.{StatesList}
use Rattle.icu_normalizer_core.specs.Settled.{key_at, IsAmong}

-- the class of a character: what is built in, else what is given
abbrev pub class_with : List GivenClass → ℕ → ℕ
class_with classes c = unwrap_or (built_in_class c) (given_class classes c)

-- what a triple's word states is what mapping steps leave of its character
abbrev pub IsListWord : List ℕ → List ℕ → ℕ → ℕ → Type 0
IsListWord steps scalars24 c word = (list : List ℕ) × Leaves (step_in steps) (c ∷ []) list × StatesList [] scalars24 word list

-- there is a word for each triple, and none is of a character with a built-in mapping
pub record AreListWords (steps : List ℕ) (lists : ListWords) : Type 0 where
  pub count : length lists.words.items ≡ length steps / 3
  pub free : (index : ℕ) → index < length steps / 3 → IsFree (key_at steps index)
  pub each : (index : ℕ) → index < length steps / 3 → IsListWord steps lists.scalars24.items (key_at steps index) (slice_index lists.words.items index)

-- the characters of the first so many triples
unfoldable pub keys_below : List ℕ → ℕ → List ℕ
keys_below steps zero = []
keys_below steps (suc n) = key_at steps n ∷ keys_below steps n

-- the full lists of mapped characters may take more slots than words name
abbrev pub HasLongLists : List ℕ → Type 0
HasLongLists steps = 2 ^ 14 - 1 ≤ sum_by (λ c. list_room (step_in steps) (step_in steps c)) (keys_below steps (length steps / 3))

-- what mapping steps leave of a mapped character has over eight characters, where they end
abbrev pub HasBadEnd : List ℕ → Type 0
HasBadEnd steps =
    (index : ℕ) × (index < length steps / 3) × ((list : List ℕ) → Leaves (step_in steps) (key_at steps index ∷ []) list → 8 < length list)

-- each mapped character is a starter
abbrev pub AreStarters : List GivenClass → List ℕ → Type 0
AreStarters classes steps = (index : ℕ) → index < length steps / 3 → class_with classes (key_at steps index) ≡ 0

-- the word says of the character its class, and what mapping steps leave of it
pub record IsWordOf (k : ℕ) (steps scalars24 : List ℕ) (c word : ℕ) : Type 0 where
  pub fits : word < 2 ^ 30
  pub form : is_word c word ≡ true
  pub inside : is_inside [] scalars24 word ≡ true
  pub class : class_of_word c word ≡ k
  pub full : IsFree c → Leaves (step_in steps) (c ∷ []) (full_of_word [] scalars24 c word)
  pub built_in : IfSome (built_in_full c) (λ list. full_of_word [] scalars24 c word ≡ list)

-- the characters with a built-in class other than 0, and those with a built-in mapping to other characters but syllables
abbrev pub built_in_named : List ℕ
built_in_named = 0x300 ∷ 0x301 ∷ 0x308 ∷ 0x313 ∷ 0x340 ∷ 0x341 ∷ 0x343 ∷ 0x344 ∷ 0xf71 ∷ 0xf72 ∷ 0xf73 ∷ 0xf74 ∷ 0xf75 ∷ 0xf80 ∷ 0xf81 ∷ 0x3099 ∷ 0x309a ∷ []

-- the list has the characters that are named by what is built in, but syllables, or given
abbrev pub HasNamed : List GivenClass → List GivenMapping → List ℕ → Type 0
HasNamed classes mappings list = (c : ℕ) → IsAmong ((built_in_named ++ map (λ g. g.character) classes) ++ map (λ g. g.character) mappings) c → IsAmong list c

-- the word of a character that isn't named: 1 of a syllable
abbrev pub unnamed_word : ℕ → ℕ
unnamed_word c = cond (is_syllable c) 1 0

-- no word is set but 1 for each syllable
pub record AreUnnamed (words : CodePointMap ℕ) : Type 0 where
  pub all : length words.values ≡ 0x11_0000
  pub default : words.default ≡ 0
  pub each : (c : ℕ) → c ≤ 0x10_FFFF → mapped words c ≡ unnamed_word c
  pub wide : different_blocks (λ n. n) 512 words.values ≤ 3
  pub narrow : different_blocks (λ n. n) 16 words.values ≤ 3

-- A map has right words of the characters of a list. Others are as in a map in which none is set.
pub record HasRightWords (IsRight : ℕ → ℕ → Type 0) (named : List ℕ) (words : CodePointMap ℕ) : Type 0 where
  pub default : words.default ≡ 0
  pub among : (c : ℕ) → c ≤ 0x10_FFFF → IsAmong named c → IsRight c (mapped words c)
  pub others : (c : ℕ) → c ≤ 0x10_FFFF → (IsAmong named c → ⊥) → mapped words c ≡ unnamed_word c
  pub all : length words.values ≡ 0x11_0000
  pub none_set : CodePointMap ℕ
  pub unnamed : AreUnnamed none_set

-- a map has the words of canonical tables of the characters of a list
abbrev pub HasWords : List GivenClass → List ℕ → List ℕ → List ℕ → CodePointMap ℕ → Type 0
HasWords classes steps scalars24 named words = HasRightWords (λ c word. IsWordOf (class_with classes c) steps scalars24 c word) named words
