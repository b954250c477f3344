use Rattle.std.proofs.Common.{◌∙◌, sym}
use Rattle.examples_icu_collator.specs.Letters.{letters, dot_composed, acute_composed, acute_before_dot}
use Rattle.examples_icu_collator.proofs.LetterPairsLemmas.{letters_is_canonical}
use Rattle.examples_icu_collator.proofs.TextExamples.{dot_composed_scalars, acute_composed_scalars, acute_before_dot_scalars, dot_recomposed, marks_recomposed}
use Rattle.examples_icu_collator.proofs.order.composed_spellings_are_equivalent.Goals as goal

pub returns-clause-one_list : goal.returns-clause-one_list
returns-clause-one_list c =
    sym ((c.equal_composed_lists_are_equivalent.ensures letters dot_composed acute_composed letters_is_canonical dot_composed_scalars acute_composed_scalars).0
    c.spellings_are_equivalent.ensures)

pub returns-clause-marks : goal.returns-clause-marks
returns-clause-marks c =
    (c.equal_composed_lists_are_equivalent.ensures letters acute_before_dot dot_composed letters_is_canonical acute_before_dot_scalars dot_composed_scalars).1
    (marks_recomposed ∙ sym dot_recomposed)
