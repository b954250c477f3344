use Rattle.examples_icu_collator.specs.Letters.{letters_collation, dot_composed, acute_composed}
use Rattle.examples_icu_collator.proofs.LettersLemmas.{letters_is_decomposing}
use Rattle.examples_icu_collator.proofs.TextExamples.{dot_composed_scalars, acute_composed_scalars}
use Rattle.examples_icu_collator.proofs.order.spellings_are_equal.Goals as goal

pub returns-clause-equal : goal.returns-clause-equal
returns-clause-equal c options =
    c.equivalent_texts_are_equal.ensures letters_collation options dot_composed acute_composed letters_is_decomposing dot_composed_scalars acute_composed_scalars
    c.spellings_are_equivalent.ensures

pub returns-clause-alike : goal.returns-clause-alike
returns-clause-alike c options text =
    (c.order_is_total.ensures letters_collation options).congr dot_composed acute_composed text
    (c.equivalent_texts_are_equal.ensures letters_collation options dot_composed acute_composed letters_is_decomposing dot_composed_scalars acute_composed_scalars
    c.spellings_are_equivalent.ensures)
