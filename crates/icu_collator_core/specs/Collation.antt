-- What collation data say, whole: characters, weights and settings.
use Rattle.std.specs.Prelude.{ℕ, ◌+◌, ◌*◌, ◌/◌, ◌%◌, ◌^◌, Bool, List}
use Rattle.icu_normalizer_core.specs.Canonical.{Canonical}
use Rattle.icu_collator_types.specs.declared.options.FileSettings.{FileSettings}
use Rattle.icu_collator_core.specs.Weights.{Weights}

pub record Collation : Type 0 where
  pub canonical : Canonical
  pub weights : Weights
  -- what they set of the options
  pub options : FileSettings
  -- whether the secondary level is read backward, between one U+FFFE and the next
  pub backward : Bool
  -- the upper halves of the first primaries after spaces, punctuation, symbols and currency signs
  pub groups : List ℕ
  -- the primary that stands in the place of another
  pub reordered : ℕ → ℕ

-- a primary with another lead byte in the place of its own, and the same rest
abbrev pub with_lead : (ℕ → ℕ) → ℕ → ℕ
with_lead index p = index (p / 2 ^ 24) * 2 ^ 24 + p % 2 ^ 24

-- the lead byte that stands in the place of another, by the primary of that one alone
abbrev pub reordered_lead : Collation → ℕ → ℕ
reordered_lead collation lead = collation.reordered (lead * 2 ^ 24) / 2 ^ 24
