-- Hangul syllables, by their letters (UAX 15).
use Rattle.std.specs.Char.{IsScalar}
use Rattle.std.specs.Prelude.{◌≡◌, ℕ, All, List, ◌∷◌, ◌++◌, Option, true}
use Rattle.icu_normalizer_core.specs.BuiltIn.{is_syllable}
use Rattle.icu_normalizer_core.specs.Canonical.{Canonical, decomposed}
use Rattle.icu_normalizer_core.specs.CanonicalWords.{syllable_letters}
use Rattle.icu_collator.specs.Fronts.{PartAt}

-- two syllables have the same letters up to these two, which differ where the syllables do
pub record DifferInLetters (c d left right : ℕ) : Type 0 where
  pub left_syllable : is_syllable c ≡ true
  pub right_syllable : is_syllable d ≡ true
  pub front : List ℕ
  pub left_rest : List ℕ
  pub right_rest : List ℕ
  pub left_is : syllable_letters c ≡ front ++ left ∷ left_rest
  pub right_is : syllable_letters d ≡ front ++ right ∷ right_rest
  pub differ : left ≡ right → c ≡ d

-- texts that have the decomposed lists of two others first differ in these
pub record EquivalentPartAt (canonical : Canonical) (a b : List ℕ) (common : ℕ) (left right : Option ℕ) : Type 0 where
  pub left_text : List ℕ
  pub right_text : List ℕ
  pub left_same : decomposed canonical left_text ≡ decomposed canonical a
  pub right_same : decomposed canonical right_text ≡ decomposed canonical b
  pub left_scalars : All IsScalar left_text
  pub right_scalars : All IsScalar right_text
  pub part : PartAt left_text right_text common left right
