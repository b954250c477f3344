-- Tables that are built of maps, as lists.
use Rattle.std.specs.Prelude.{◌≡◌, ℕ, ◌*◌, ◌<◌, ◌≤◌, ◌/◌, ◌^◌, cond, true, List, [], length, map, nat_eq}
use Rattle.std.specs.Set.{distinct_count}
use Rattle.std.specs.Option.{is_some, unwrap_or, IsSomeAnd}
use Rattle.std.specs.Char.{IsScalar}
use Rattle.icu_codepointtrie.specs.Slots.{TrieTables, value_at, has_cell}
use Rattle.icu_normalizer_core.specs.declared.builder.given.GivenClass.{GivenClass}
use Rattle.icu_normalizer_core.specs.declared.builder.given.GivenMapping.{GivenMapping}
use Rattle.icu_normalizer_core.specs.BuiltIn.{built_in_step}
use Rattle.icu_normalizer_core.specs.Canonical.{IsFree}
use Rattle.icu_normalizer_core.specs.CanonicalLists.{CanonicalLists, AreTriples, ArePairs, listed_step, listed_pair}
use Rattle.icu_normalizer_core.specs.CanonicalMaps.{CanonicalMaps, class_of, given_step, given_pair}
use Rattle.icu_normalizer_core.specs.CanonicalWords.{plain_word}
use Rattle.icu_normalizer_core.specs.CharacterWords.{class_with, AreStarters, IsWordOf}
use Rattle.icu_normalizer_core.specs.Settled.{key_at}

-- the word of each code point is below 2 ^ 30: its two uppermost bits are 0
abbrev pub HasPlainWords : TrieTables ℕ → Type 0
HasPlainWords trie = (c : ℕ) → c ≤ 0x10_FFFF → IsSomeAnd (value_at trie c) (λ word. word < 2 ^ 30)

-- The triples are the mappings that aren't built in: one for each character that has such a mapping, in rising order.
pub record AreStepsOf (mappings : List GivenMapping) (steps : List ℕ) : Type 0 where
  pub triples : AreTriples steps
  pub listed : (c : ℕ) → listed_step steps c ≡ cond (is_some (built_in_step c)) [] (given_step mappings c)
  pub few : length steps ≤ 3 * distinct_count nat_eq (map (λ g. g.character) mappings)
  pub free : (index : ℕ) → index < length steps / 3 → IsFree (key_at steps index)

-- pairs list what mappings compose
pub record ArePairsOf (mappings : List GivenMapping) (pairs : List ℕ) : Type 0 where
  pub form : ArePairs pairs
  pub listed : (a b : ℕ) → b < 2 ^ 21 → listed_pair pairs a b ≡ given_pair mappings a b

-- a trie has each character's word
pub record IsWordTrieOf (classes : List GivenClass) (steps scalars24 : List ℕ) (trie : TrieTables ℕ) : Type 0 where
  pub cells : (c : ℕ) → IsScalar c → has_cell trie c ≡ true
  pub words : (c : ℕ) → IsScalar c → IsWordOf (class_with classes c) steps scalars24 c (plain_word (unwrap_or (value_at trie c) 0))

-- each character has its word, and triples and pairs list what maps say
pub record AreBuiltOf (maps : CanonicalMaps) (lists : CanonicalLists) : Type 0 where
  pub has_word : (c : ℕ) → IsScalar c → lists.has_word c ≡ true
  pub words : (c : ℕ) → IsScalar c → IsWordOf (class_of maps c) lists.steps lists.scalars24 c (lists.word c)
  pub scalars16 : lists.scalars16 ≡ []
  pub triples : AreTriples lists.steps
  pub steps : (c : ℕ) → listed_step lists.steps c ≡ cond (is_some (built_in_step c)) [] (given_step maps.mappings c)
  pub starters : AreStarters maps.classes lists.steps
  pub pairs : ArePairs lists.pairs
  pub listed_pairs : (a b : ℕ) → b < 2 ^ 21 → listed_pair lists.pairs a b ≡ given_pair maps.mappings a b
