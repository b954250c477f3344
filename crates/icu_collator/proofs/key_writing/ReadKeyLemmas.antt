-- The key of what was read of a text.
use Rattle.std.proofs.Common.{◌≡◌, ℕ, true, List, [], ◌++◌, ap, ◌∙◌}
use Rattle.std.specs.List.{list_all}
use Rattle.std.specs.Prelude.{All}
use Rattle.std.specs.Char.{IsScalar}
use Rattle.icu_normalizer_core.specs.Canonical.{IsDecomposing, decomposed}
use Rattle.icu_collator_types.specs.declared.elements.Element.{Element}
use Rattle.icu_collator_types.specs.declared.options.ResolvedCollatorOptions.{ResolvedCollatorOptions}
use Rattle.icu_collator_types.specs.Options.{is_numeric}
use Rattle.icu_collator_core.specs.Collation.{Collation}
use Rattle.icu_collator_core.specs.WeightRules.{AreSoundWeights}
use Rattle.icu_collator_core.proofs.readings.SoundElementsLemmas.{text_elements_sound}
use Rattle.icu_collator.specs.KeyBytes.{key_bytes, key_of_text}
use Rattle.icu_collator.specs.LevelLists.{counted_list, has_sound_case}
use Rattle.icu_collator.specs.Levels.{elements_of_text, levels_of}
use Rattle.icu_collator.specs.Shifted.{counted}
use Rattle.icu_collator.specs.TextsRead.{IsReadOf}
use Rattle.icu_collator.proofs.key_writing.KeyWrittenLemmas.{same_characters}
use Rattle.icu_collator.proofs.key_writing.SoundCaseLemmas.{cases_are_sound}

module _ (collation : Collation) (options : ResolvedCollatorOptions) (text items kept : List ℕ) (end : ℕ) (is : IsReadOf collation options text items end kept) where
  -- the cases of its elements that count are cases
  pub read_is_sound : IsDecomposing collation.canonical → AreSoundWeights collation.weights → All IsScalar text
      → list_all has_sound_case (counted_list end items) ≡ true
  read_is_sound decomposing sound ok =
      let numeric = is_numeric options.numeric in
      ap (list_all has_sound_case) is.elements
      ∙ cases_are_sound collation options numeric (elements_of_text collation options text) sound (text_elements_sound collation.canonical collation.weights numeric text decomposing sound ok)

  -- where the key of its levels was written, the key of the text was
  pub read_key : (old new : List ℕ) → old ≡ []
      → ((es : List Element) → counted_list end items ≡ counted collation options es → new ≡ old ++ key_bytes collation options (levels_of collation options es kept))
      → new ≡ key_of_text collation options text
  read_key old new none written =
      let es = elements_of_text collation options text in
      written es is.elements
      ∙ ap (λ (l : List ℕ). l ++ key_bytes collation options (levels_of collation options es kept)) none
      ∙ same_characters collation options es kept (decomposed collation.canonical text) (λ h. is.characters h)
