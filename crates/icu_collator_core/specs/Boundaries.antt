-- Characters at which the reading of a text may begin, whatever stands before them.
use Rattle.std.specs.Prelude.{◌≡◌, ℕ, Bool, true, false, ◌==◌, ◌&&◌, ◌||◌, List, [], ◌∷◌, ◌++◌, take, None}
use Rattle.std.specs.Option.{is_some}
use lib.Utf8.{scalars}
use Rattle.icu_normalizer_core.specs.Canonical.{Canonical}
use Rattle.icu_collator_core.specs.Elements.{longest_prefix}
use Rattle.icu_collator_core.specs.Weights.{Weights}

-- a grave, an acute or a tilde, before which a dot above may be dropped
abbrev pub is_accent : ℕ → Bool
is_accent c = (c == 0x300) || (c == 0x301) || (c == 0x303)

-- A boundary between recorded texts: a starter that stands first wherever it stands in one, and with which no prefix is
-- recorded.
pub record IsBoundary (canonical : Canonical) (weights : Weights) (d : ℕ) : Type 0 where
  pub starter : canonical.class d ≡ 0
  pub behind : (x : ℕ) (xs ys : List ℕ) → scalars (x ∷ xs ++ d ∷ ys) ≡ true → weights.recorded [] (x ∷ xs ++ d ∷ ys) ≡ None
  pub prefixes : (p : ℕ) (ps : List ℕ) → scalars (p ∷ ps) ≡ true → weights.recorded (p ∷ ps) (d ∷ []) ≡ None

-- a character that goes on with no number, and before which no dot above is dropped
pub record IsApart (weights : Weights) (numeric : Bool) (c : ℕ) : Type 0 where
  pub number : (numeric && is_some (weights.digit c)) ≡ false
  pub accent : (weights.dot_above && is_accent c) ≡ false

-- what stands directly before what follows these characters
abbrev pub after : List ℕ → List ℕ → List ℕ
after before [] = before
after before (c ∷ cs) = after (take longest_prefix (c ∷ before)) cs
