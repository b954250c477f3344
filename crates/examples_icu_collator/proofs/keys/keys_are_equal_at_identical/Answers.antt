use Rattle.std.proofs.Common.{refl}
use Rattle.icu_collator_types.specs.declared.options.Strength.TheVariants.{Identical}
use Rattle.examples_icu_collator.specs.Letters.{digits_collation, numeric_options, dot_composed, acute_composed}
use Rattle.examples_icu_collator.proofs.LettersLemmas.{letters_is_decomposing}
use Rattle.examples_icu_collator.proofs.KeyExamples.{digits_sound}
use Rattle.examples_icu_collator.proofs.TextExamples.{dot_composed_scalars, acute_composed_scalars}
use Rattle.examples_icu_collator.proofs.keys.keys_are_equal_at_identical.Goals as goal

pub returns : goal.returns
returns c =
    (c.equal_keys_at_identical_are_of_equivalent_texts.ensures digits_collation (numeric_options Identical) dot_composed acute_composed
    letters_is_decomposing digits_sound refl refl dot_composed_scalars acute_composed_scalars).1
    c.spellings_are_equivalent.ensures
