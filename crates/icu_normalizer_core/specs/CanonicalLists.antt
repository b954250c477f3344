-- Canonical tables as plain lists and a word of each code point, and what they mean.
use Rattle.std.specs.Prelude.{◌≡◌, ◌≢◌, ℕ, suc, ◌+◌, ◌*◌, ◌/◌, ◌%◌, ◌^◌, ◌<◌, Bool, cond, ◌==◌, ◌&&◌, List, [], ◌∷◌, length, slice_index, Option, Some, None}
use Rattle.std.specs.Option.{unwrap_or}
use Rattle.std.specs.Char.{IsScalar}
use Rattle.icu_normalizer_core.specs.BuiltIn.{built_in_step, syllable_of}
use Rattle.icu_normalizer_core.specs.Canonical.{Canonical}
use Rattle.icu_normalizer_core.specs.CanonicalWords.{class_of_word, full_of_word}

-- whether a code point has a word, and its plain word; the lists that words name indices in; the mappings, and the composed pairs
pub record CanonicalLists : Type 0 where
  pub has_word : ℕ → Bool
  pub word : ℕ → ℕ
  pub scalars16 : List ℕ
  pub scalars24 : List ℕ
  pub steps : List ℕ
  pub pairs : List ℕ

-- ---- Mappings: three numbers each, the character, what it is mapped to first, and second, 110000 where there is no second

abbrev pub mapping : ℕ → ℕ → List ℕ
mapping first second = cond (second == 0x110000) (first ∷ []) (first ∷ second ∷ [])

-- the character's mapping by the first triple of it; the empty list where it has none
unfoldable pub listed_step : List ℕ → ℕ → List ℕ
listed_step [] c = []
listed_step (k ∷ []) c = []
listed_step (k ∷ first ∷ []) c = []
listed_step (k ∷ first ∷ second ∷ rest) c =
    let later = listed_step rest c
    in cond (k == c) (mapping first second) later

-- whole triples of characters, which rise
pub record AreTriples (steps : List ℕ) : Type 0 where
  pub whole : length steps % 3 ≡ 0
  pub rising : (i : ℕ) → 3 * i + 3 < length steps → slice_index steps (3 * i) < slice_index steps (3 * i + 3)
  pub characters : (i : ℕ) → 3 * i < length steps → IsScalar (slice_index steps (3 * i))
  pub firsts : (i : ℕ) → 3 * i < length steps → IsScalar (slice_index steps (3 * i + 1))
  pub seconds : (i : ℕ) → 3 * i < length steps → slice_index steps (3 * i + 2) ≢ 0x110000 → IsScalar (slice_index steps (3 * i + 2))

-- ---- Composed pairs: one number each, first * 2 ^ 42 + second * 2 ^ 21 + composed

abbrev pub pair_first : ℕ → ℕ
pair_first pair = pair / 2 ^ 42

abbrev pub pair_second : ℕ → ℕ
pair_second pair = pair / 2 ^ 21 % 2 ^ 21

abbrev pub pair_composed : ℕ → ℕ
pair_composed pair = pair % 2 ^ 21

-- what two characters compose to, by the first entry of the two
unfoldable pub listed_pair : List ℕ → ℕ → ℕ → Option ℕ
listed_pair [] a b = None
listed_pair (pair ∷ rest) a b =
    let later = listed_pair rest a b
    in cond ((pair_first pair == a) && (pair_second pair == b)) (Some (pair_composed pair)) later

-- characters by threes, which rise, and no two of one pair
pub record ArePairs (pairs : List ℕ) : Type 0 where
  pub rising : (i : ℕ) → suc i < length pairs → slice_index pairs i / 2 ^ 21 < slice_index pairs (suc i) / 2 ^ 21
  pub firsts : (i : ℕ) → i < length pairs → IsScalar (pair_first (slice_index pairs i))
  pub seconds : (i : ℕ) → i < length pairs → IsScalar (pair_second (slice_index pairs i))
  pub composed : (i : ℕ) → i < length pairs → IsScalar (pair_composed (slice_index pairs i))

-- ---- Meaning

-- the mapping of a character: the built-in one, else that of the triples
unfoldable pub step_in : List ℕ → ℕ → List ℕ
step_in steps c = unwrap_or (built_in_step c) (listed_step steps c)

-- what the tables say; built-in mappings and syllables come first
unfoldable pub canonical_of : CanonicalLists → Canonical
canonical_of lists = record {
  class = λ c. class_of_word c (lists.word c);
  step = step_in lists.steps;
  full = λ c. full_of_word lists.scalars16 lists.scalars24 c (lists.word c);
  pair = λ a b. elim (syllable_of a b) [ Some c ↦ Some c | None ↦ listed_pair lists.pairs a b ];
}
