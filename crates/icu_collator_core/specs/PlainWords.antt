-- Characters that are read alone, whatever stands before or after them.
use Rattle.std.specs.Prelude.{◌≡◌, ℕ, true, List, [], ◌∷◌, None}
use Rattle.std.specs.Option.{unwrap_or}
use lib.Utf8.{scalars}
use Rattle.icu_collator_core.specs.Defaults.{default_elements}
use Rattle.icu_collator_core.specs.Elements.{Placed, prefix_match}
use Rattle.icu_collator_core.specs.Pools.{element_of}
use Rattle.icu_collator_core.specs.Weights.{Weights}

-- no prefix is recorded with a character, so that nothing that stands before it counts for it
abbrev pub IsUnprefixed : Weights → ℕ → Type 0
IsUnprefixed weights c = (p : Placed) → p.character ≡ c → scalars p.before ≡ true → prefix_match weights p ≡ None

-- no prefix and no longer text is recorded with a character, and it has one element, these 64 bits, unless it is read as a digit
pub record IsReadUncounted (weights : Weights) (c bits : ℕ) : Type 0 where
  pub before : IsUnprefixed weights c
  pub behind : (d : ℕ) (ds : List ℕ) → scalars (d ∷ ds) ≡ true → weights.recorded [] (c ∷ d ∷ ds) ≡ None
  pub elements : unwrap_or (weights.recorded [] (c ∷ [])) (default_elements weights c) ≡ element_of bits ∷ []

-- such a character that is no digit
pub record IsReadAlone (weights : Weights) (c bits : ℕ) : Type 0 where
  pub digit : weights.digit c ≡ None
  pub uncounted : IsReadUncounted weights c bits
