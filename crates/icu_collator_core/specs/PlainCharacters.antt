-- Characters that are read alone, at which reading may begin.
use Rattle.std.specs.Prelude.{◌≡◌, ℕ, [], ◌∷◌}
use Rattle.icu_normalizer_core.specs.Canonical.{Canonical}
use Rattle.icu_collator_core.specs.Acceptance.{CollationSource}
use Rattle.icu_collator_core.specs.ReadSources.{IsAloneAnywhere, canonical_by}
use Rattle.icu_collator_core.specs.TableMeaning.{weights_of}
use Rattle.icu_collator_core.specs.UnsafeCharacters.{IsUnsafe}
use Rattle.icu_collator_core.specs.Weights.{Weights}

-- a character at which reading may begin, and that is its own full list: what is read there begins with it
pub record IsOwnBeginning (canonical : Canonical) (weights : Weights) (c : ℕ) : Type 0 where
  pub safe : IsUnsafe canonical weights c → ⊥
  pub own : canonical.full c ≡ c ∷ []

-- such a character that is read alone, with one element, these 64 bits
pub record IsPlainCharacter (source : CollationSource) (c bits : ℕ) : Type 0 where
  pub alone : IsAloneAnywhere source c bits
  pub beginning : IsOwnBeginning (canonical_by source) (weights_of (canonical_by source) source.tables) c
