-- Sets of code points and strings.
use Rattle.std.specs.Prelude.{◌≡◌, ℕ, ◌+◌, ◌<◌, List, [], length, slice_index_or}
use Rattle.std.specs.Str.{chars}
use Rattle.std.specs.Ordering.{nat_cmp}
use Rattle.std.specs.Cmp.Lexicographic.{slice_cmp}
use Rattle.std.specs.declared.cmp.Ordering.TheVariants.{Less}

-- a set of code points and a list of texts, each by its UTF-8 bytes
pub record CodePointsAndStrings : Type 0 where
  pub code_points : List ℕ
  pub strings : List (List ℕ)

-- a text is one character alone
abbrev pub IsOneCharacter : List ℕ → Type 0
IsOneCharacter text = length (chars text) ≡ 1

-- the text at an index
abbrev pub text_at : List (List ℕ) → ℕ → List ℕ
text_at texts index = slice_index_or texts index []

-- none of the first `count` texts is one character, and each is below the next, by bytes
pub record AreStringsUpTo (texts : List (List ℕ)) (count : ℕ) : Type 0 where
  pub several : (k : ℕ) → k < count → ¬ IsOneCharacter (text_at texts k)
  pub rising : (k : ℕ) → k + 1 < count → slice_cmp nat_cmp (text_at texts k) (text_at texts (k + 1)) ≡ Less

abbrev pub AreStrings : List (List ℕ) → Type 0
AreStrings texts = AreStringsUpTo texts (length texts)
