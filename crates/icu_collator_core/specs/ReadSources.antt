-- What checked tables say, by which a text is read.
use Rattle.std.specs.Prelude.{◌≡◌, ℕ, ◌==◌, false, Option, None}
use Rattle.icu_normalizer_core.specs.Canonical.{Canonical}
use Rattle.icu_normalizer_core.specs.CanonicalMeaning.{meaning}
use Rattle.icu_collator_core.specs.Acceptance.{CollationSource}
use Rattle.icu_collator_core.specs.Defaults.{special_primary}
use Rattle.icu_collator_core.specs.PlainWords.{IsReadAlone}
use Rattle.icu_collator_core.specs.ReadSteps.{weights_for}
use Rattle.icu_collator_core.specs.TableMeaning.{weights_of}
use Rattle.icu_collator_core.specs.Weights.{Weights}

-- what their canonical data say
abbrev pub canonical_by : CollationSource → Canonical
canonical_by source = meaning source.canonical

-- what they say of weights, where numbers have this lead byte
abbrev pub weights_by : Option ℕ → CollationSource → Weights
weights_by numeric source = weights_for numeric (weights_of (canonical_by source) source.tables)

-- a character is neither special nor a dot above, and is read alone, with one element, these 64 bits
pub record IsAloneAnywhere (source : CollationSource) (c bits : ℕ) : Type 0 where
  pub ordinary : special_primary c ≡ None
  pub undotted : (c == 0x307) ≡ false
  pub alone : (numeric : Option ℕ) → IsReadAlone (weights_by numeric source) c bits
