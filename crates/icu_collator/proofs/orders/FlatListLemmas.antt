-- What texts that are read flat whole are read to.
use Rattle.std.proofs.Common.{◌≡◌, ℕ, List, Option, ap, ◌∙◌}
use Rattle.icu_collator_types.specs.declared.options.ResolvedCollatorOptions.{ResolvedCollatorOptions}
use Rattle.icu_collator_core.specs.Acceptance.{CollationSource}
use Rattle.icu_collator_core.specs.ElementLists.{unpacked}
use Rattle.icu_collator_core.specs.ElementTexts.{text_elements}
use Rattle.icu_collator.specs.Collators.{source_collation}
use Rattle.icu_collator.specs.Levels.{elements_of_text}
use Rattle.icu_collator.specs.TextsRead.{numeric_by}
use Rattle.icu_collator.proofs.orders.CountedPrimaryLemmas.{elements_by_options}

-- the elements of a text that was read by the lead byte of numbers that the options ask for
pub listed_elements : (source : CollationSource) (options : ResolvedCollatorOptions) (numeric : Option ℕ) (text items : List ℕ) → numeric ≡ numeric_by source options
    → unpacked items ≡ text_elements source numeric text → unpacked items ≡ elements_of_text (source_collation source) options text
listed_elements source options numeric text items is are =
    are ∙ ap (λ (n : Option ℕ). text_elements source n text) is ∙ elements_by_options source options text
