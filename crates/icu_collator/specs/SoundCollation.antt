-- What collation data must keep for keys to order as levels do, and which levels elements of texts have.
use Rattle.std.specs.Prelude.{ℕ, List, All}
use Rattle.std.specs.Char.{IsScalar}
use Rattle.icu_collator_types.specs.declared.elements.Element.{Element}
use Rattle.icu_collator_types.specs.declared.options.ResolvedCollatorOptions.{ResolvedCollatorOptions}
use Rattle.icu_collator_types.specs.Options.{is_numeric}
use Rattle.icu_collator_core.specs.Collation.{Collation}
use Rattle.icu_collator_core.specs.SoundElements.{IsSoundSequence}
use Rattle.icu_collator_core.specs.WeightRules.{AreSoundWeights}
use Rattle.icu_collator.specs.Levels.{Levels, levels_of}
use Rattle.icu_collator.specs.Settings.{AreSoundSettings}

-- weights and settings that keep the rules
pub record IsSoundCollation (collation : Collation) : Type 0 where
  pub weights : AreSoundWeights collation.weights
  pub settings : AreSoundSettings collation

-- levels of elements such as texts have, and of the scalar values they were read from
pub data AreSoundLevels (collation : Collation) (options : ResolvedCollatorOptions) : Levels → Type 0 where
  read : (elements : List Element) (list : List ℕ)
      → IsSoundSequence collation.weights (is_numeric options.numeric) elements → All IsScalar list
      → AreSoundLevels collation options (levels_of collation options elements list)
