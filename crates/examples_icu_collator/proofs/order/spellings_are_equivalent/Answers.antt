use Rattle.std.proofs.Common.{◌∙◌, sym}
use Rattle.examples_icu_collator.specs.Letters.{letters, dot_composed, acute_composed}
use Rattle.examples_icu_collator.proofs.LettersLemmas.{letters_is_decomposing}
use Rattle.examples_icu_collator.proofs.TextExamples.{dot_composed_scalars, acute_composed_scalars, dot_decomposed, acute_decomposed}
use Rattle.examples_icu_collator.proofs.order.spellings_are_equivalent.Goals as goal

pub returns : goal.returns
returns c =
    (c.equal_lists_are_equivalent.ensures letters dot_composed acute_composed letters_is_decomposing dot_composed_scalars acute_composed_scalars).1
    (dot_decomposed ∙ sym acute_decomposed)
