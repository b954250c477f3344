-- When two sets of data say the same: of all scalar values, or of characters of some kind, as those that a text reaches.
use Rattle.std.specs.Prelude.{◌≡◌, ℕ, List, [], ◌∷◌, All, None}
use Rattle.std.specs.Char.{IsScalar}
use Rattle.icu_normalizer_core.specs.Canonical.{Canonical, Reaches}
use Rattle.icu_collator_core.specs.Collation.{Collation}
use Rattle.icu_collator_core.specs.Weights.{Weights}

-- weights that record the same texts, and say the same of each character
pub record AreSameWeights (a b : Weights) : Type 0 where
  pub recorded : (prefix text : List ℕ) → All IsScalar prefix → All IsScalar text → a.recorded prefix text ≡ b.recorded prefix text
  pub digit : (c : ℕ) → IsScalar c → a.digit c ≡ b.digit c
  -- records count before ranges
  pub ranged_primary : (c : ℕ) → IsScalar c → a.recorded [] (c ∷ []) ≡ None → a.ranged_primary c ≡ b.ranged_primary c
  pub is_compressible : (lead : ℕ) → a.is_compressible lead ≡ b.is_compressible lead
  pub numeric_lead : a.numeric_lead ≡ b.numeric_lead
  pub dot_above : a.dot_above ≡ b.dot_above

-- canonical data that give each character of a kind one class and one mapping
pub record AreSameMappings (IsKind : ℕ → Type 0) (a b : Canonical) : Type 0 where
  pub class : (c : ℕ) → IsKind c → a.class c ≡ b.class c
  pub step : (c : ℕ) → IsKind c → a.step c ≡ b.step c

-- weights that record the same texts of such characters, say the same of each, and read texts by the same settings
pub record AreSameReadings (IsKind : ℕ → Type 0) (a b : Weights) : Type 0 where
  pub recorded : (prefix : List ℕ) (c : ℕ) (rest : List ℕ) → All IsKind prefix → IsKind c → All IsKind rest
      → a.recorded prefix (c ∷ rest) ≡ b.recorded prefix (c ∷ rest)
  pub digit : (c : ℕ) → IsKind c → a.digit c ≡ b.digit c
  -- records count before ranges
  pub ranged_primary : (c : ℕ) → IsKind c → a.recorded [] (c ∷ []) ≡ None → a.ranged_primary c ≡ b.ranged_primary c
  pub numeric_lead : a.numeric_lead ≡ b.numeric_lead
  pub dot_above : a.dot_above ≡ b.dot_above

-- data that say the same of each character that a text reaches by the steps of the first
pub record AreSameOf (a b : Collation) (text : List ℕ) : Type 0 where
  pub mappings : AreSameMappings (Reaches a.canonical.step text) a.canonical b.canonical
  pub readings : AreSameReadings (Reaches a.canonical.step text) a.weights b.weights

-- the same lead bytes are compressible
abbrev pub AreSameLeads : Weights → Weights → Type 0
AreSameLeads v w = (lead : ℕ) → v.is_compressible lead ≡ w.is_compressible lead
