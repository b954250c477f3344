-- Characters at which no reading of a text may begin: what stands before them may count.
use Rattle.std.specs.Prelude.{◌≡◌, ◌≢◌, ℕ, ◌⊎◌, List, ◌∷◌, Some}
use Rattle.std.specs.List.{Contains}
use Rattle.icu_normalizer_core.specs.Canonical.{Canonical}
use Rattle.icu_collator_types.specs.declared.elements.Element.{Element}
use Rattle.icu_collator_core.specs.Weights.{Weights}

-- a character stands second or later in a recorded text
pub record StandsLater (weights : Weights) (c : ℕ) : Type 0 where
  pub prefix : List ℕ
  pub first : ℕ
  pub later : List ℕ
  pub elements : List Element
  pub recorded : weights.recorded prefix (first ∷ later) ≡ Some elements
  pub within : Contains later c

-- a text that begins with a character is recorded after a prefix
pub record HasPrefix (weights : Weights) (c : ℕ) : Type 0 where
  pub nearest : ℕ
  pub further : List ℕ
  pub later : List ℕ
  pub elements : List Element
  pub recorded : weights.recorded (nearest ∷ further) (c ∷ later) ≡ Some elements

-- what weights say of a character may hang on what stands before it
abbrev pub IsUnsafeByRecords : Weights → ℕ → Type 0
IsUnsafeByRecords weights c = StandsLater weights c ⊎ HasPrefix weights c

-- a mark, or a character that is unsafe by what is recorded
abbrev pub IsUnsafeItself : Canonical → Weights → ℕ → Type 0
IsUnsafeItself canonical weights c = (canonical.class c ≢ 0) ⊎ IsUnsafeByRecords weights c

-- a character that is one of these, or whose full list begins with one; the full list of a character with no mapping is
-- that character
abbrev pub IsUnsafe : Canonical → Weights → ℕ → Type 0
IsUnsafe canonical weights c =
    IsUnsafeItself canonical weights c
    ⊎ ((first : ℕ) × (rest : List ℕ) × (canonical.full c ≡ first ∷ rest) × IsUnsafeItself canonical weights first)

-- A character at which reading may begin: its full list begins with a starter that stands in no recorded text but first, and
-- before which no prefix is recorded.
pub record IsSafe (canonical : Canonical) (weights : Weights) (c : ℕ) : Type 0 where
  pub first : ℕ
  pub rest : List ℕ
  pub full : canonical.full c ≡ first ∷ rest
  pub starter : canonical.class first ≡ 0
  pub stands_first : StandsLater weights first → ⊥
  pub unprefixed : HasPrefix weights first → ⊥
