use Rattle.std.proofs.Common.{◌∙◌, sym}
use Rattle.examples_icu_collator.specs.Letters.{letters, acute_composed}
use Rattle.examples_icu_collator.proofs.LettersLemmas.{letters_is_decomposing}
use Rattle.examples_icu_collator.proofs.LetterPairsLemmas.{letters_is_canonical}
use Rattle.examples_icu_collator.proofs.TextExamples.{acute_composed_scalars, acute_decomposed, dot_decomposed, acute_recomposed, dot_recomposed}
use Rattle.examples_icu_collator.proofs.order.normal_forms_of_spellings.Goals as goal

pub returns-clause-decomposed_twice : goal.returns-clause-decomposed_twice
returns-clause-decomposed_twice c =
    c.normal_forms_stay.ensures.decomposed_twice letters acute_composed letters_is_decomposing acute_composed_scalars ∙ acute_decomposed ∙ sym dot_decomposed

pub returns-clause-decomposed_then_composed : goal.returns-clause-decomposed_then_composed
returns-clause-decomposed_then_composed c =
    c.normal_forms_stay.ensures.decomposed_then_composed letters acute_composed letters_is_decomposing acute_composed_scalars ∙ acute_recomposed

pub returns-clause-composed_then_decomposed : goal.returns-clause-composed_then_decomposed
returns-clause-composed_then_decomposed c =
    c.normal_forms_stay.ensures.composed_then_decomposed letters acute_composed letters_is_canonical acute_composed_scalars ∙ acute_decomposed

pub returns-clause-composed_twice : goal.returns-clause-composed_twice
returns-clause-composed_twice c =
    c.normal_forms_stay.ensures.composed_twice letters acute_composed letters_is_canonical acute_composed_scalars ∙ acute_recomposed ∙ sym dot_recomposed
