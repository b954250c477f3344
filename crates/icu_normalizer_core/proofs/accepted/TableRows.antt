-- Rows of canonical tables: each form of a word, a small table, and what it means.
use Rattle.std.proofs.Common.{◌≡◌, ℕ, ◌+◌, ◌*◌, ◌^◌, ◌==◌, cond, true, false, [], ◌∷◌, Some, refl}
use Rattle.icu_normalizer_core.specs.Canonical.{decomposed, composed}
use Rattle.icu_normalizer_core.specs.CanonicalWords.{is_word, is_inside, class_of_word, full_of_word}
use Rattle.icu_normalizer_core.specs.CanonicalLists.{CanonicalLists, canonical_of}
use Rattle.icu_normalizer_core.proofs.accepted.TableComputing.{computing}

-- ---- Forms

itself : full_of_word [] [] 0x41 0 ≡ 0x41 ∷ []
unfolding computing
itself = refl

mark : class_of_word 0x301 0xd8e6 ≡ 230
unfolding computing
mark = refl

mark_itself : full_of_word [] [] 0x301 0xd8e6 ≡ 0x301 ∷ []
unfolding computing
mark_itself = refl

pair : full_of_word [] [] 0xe1 (0x61 + 0x301 * 2 ^ 15) ≡ 0x61 ∷ 0x301 ∷ []
unfolding computing
pair = refl

single : full_of_word [] [] 0x212b 0xc5 ≡ 0xc5 ∷ []
unfolding computing
single = refl

list_16 : full_of_word (0x73 ∷ 0x323 ∷ 0x307 ∷ []) [] 0x1e69 0x1_0001 ≡ 0x73 ∷ 0x323 ∷ 0x307 ∷ []
unfolding computing
list_16 = refl

list_24 : full_of_word (0x73 ∷ 0x323 ∷ 0x307 ∷ []) (0x1d157 ∷ 0x1d165 ∷ []) 0x1d15e 0x4_0001 ≡ 0x1d157 ∷ 0x1d165 ∷ []
unfolding computing
list_24 = refl

outside_24 : is_inside (0x73 ∷ 0x323 ∷ 0x307 ∷ []) (0x1d157 ∷ 0x1d165 ∷ []) 0x5_0001 ≡ false
unfolding computing
outside_24 = refl

syllable : full_of_word [] [] 0xac01 1 ≡ 0x1100 ∷ 0x1161 ∷ 0x11a8 ∷ []
unfolding computing
syllable = refl

seven : full_of_word [] [] 0x344 0xd9e6 ≡ 0x308 ∷ 0x301 ∷ []
unfolding computing
seven = refl

seven_class : class_of_word 0x344 0xd900 ≡ 230
unfolding computing
seven_class = refl

-- ---- Words that have none of the forms

class_255 : is_word 0xe1 0xd8ff ≡ false
unfolding computing
class_255 = refl

class_0 : is_word 0xe1 0xd800 ≡ false
unfolding computing
class_0 = refl

no_syllable : is_word 0x41 1 ≡ false
unfolding computing
no_syllable = refl

not_of_seven : is_word 0x41 0xd9e6 ≡ false
unfolding computing
not_of_seven = refl

surrogate : is_word 0x41 0xdc00 ≡ false
unfolding computing
surrogate = refl

low_first : is_word 0x41 0x1_8010 ≡ false
unfolding computing
low_first = refl

-- ---- A table: two mappings that are composed, three classes

few_words : ℕ → ℕ
few_words c =
    cond (c == 0xe1) (0x61 + 0x301 * 2 ^ 15)
    (cond (c == 0x1ea1) (0x61 + 0x323 * 2 ^ 15)
    (cond (c == 0x301) 0xd8e6 (cond (c == 0x323) 0xd8dc (cond (c == 0x344) 0xd9e6 (cond (c == 0x308) 0xd8e6 0)))))

few : CanonicalLists
few = record {
  has_word = λ c. true;
  word = few_words;
  scalars16 = [];
  scalars24 = [];
  steps = 0xe1 ∷ 0x61 ∷ 0x301 ∷ 0x1ea1 ∷ 0x61 ∷ 0x323 ∷ [];
  pairs = (0x61 * 2 ^ 42 + 0x301 * 2 ^ 21 + 0xe1) ∷ (0x61 * 2 ^ 42 + 0x323 * 2 ^ 21 + 0x1ea1) ∷ [];
}

two_marks : composed (canonical_of few) (0x61 ∷ 0x301 ∷ 0x323 ∷ []) ≡ 0x1ea1 ∷ 0x301 ∷ []
unfolding computing few few_words
two_marks = refl

letter_decomposed : decomposed (canonical_of few) (0xe1 ∷ 0x323 ∷ []) ≡ 0x61 ∷ 0x323 ∷ 0x301 ∷ []
unfolding computing few few_words
letter_decomposed = refl

built_in_decomposed : decomposed (canonical_of few) (0x344 ∷ []) ≡ 0x308 ∷ 0x301 ∷ []
unfolding computing few few_words
built_in_decomposed = refl

composes : (canonical_of few).pair 0x61 0x323 ≡ Some 0x1ea1
unfolding computing few few_words
composes = refl

composes_hangul : (canonical_of few).pair 0xac00 0x11a8 ≡ Some 0xac01
unfolding computing few few_words
composes_hangul = refl

mapped : (canonical_of few).step 0xe1 ≡ 0x61 ∷ 0x301 ∷ []
unfolding computing few few_words
mapped = refl
