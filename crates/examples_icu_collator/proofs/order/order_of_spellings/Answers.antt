use Rattle.std.proofs.Common.{◌≡◌, ℕ, List, subst}
use Rattle.examples_icu_collator.specs.Letters.{letters_collation, acute_composed, cote_with_acute}
use Rattle.icu_collator.specs.Order.{collation_order}
use Rattle.examples_icu_collator.proofs.LettersLemmas.{letters_is_decomposing}
use Rattle.examples_icu_collator.proofs.LetterPairsLemmas.{letters_is_canonical}
use Rattle.examples_icu_collator.proofs.TextExamples.{acute_composed_scalars, acute_decomposed, acute_recomposed}
use Rattle.examples_icu_collator.proofs.order.order_of_spellings.Goals as goal

pub returns-clause-decomposed_left : goal.returns-clause-decomposed_left
returns-clause-decomposed_left c options =
    subst (λ (text : List ℕ). collation_order letters_collation options text cote_with_acute ≡ collation_order letters_collation options acute_composed cote_with_acute) acute_decomposed
    (c.normalising_first_keeps_order.ensures.decomposed_left letters_collation options acute_composed cote_with_acute letters_is_decomposing acute_composed_scalars)

pub returns-clause-decomposed_right : goal.returns-clause-decomposed_right
returns-clause-decomposed_right c options =
    subst (λ (text : List ℕ). collation_order letters_collation options cote_with_acute text ≡ collation_order letters_collation options cote_with_acute acute_composed) acute_decomposed
    (c.normalising_first_keeps_order.ensures.decomposed_right letters_collation options cote_with_acute acute_composed letters_is_decomposing acute_composed_scalars)

pub returns-clause-composed_left : goal.returns-clause-composed_left
returns-clause-composed_left c options =
    subst (λ (text : List ℕ). collation_order letters_collation options text cote_with_acute ≡ collation_order letters_collation options acute_composed cote_with_acute) acute_recomposed
    (c.normalising_first_keeps_order.ensures.composed_left letters_collation options acute_composed cote_with_acute letters_is_canonical acute_composed_scalars)

pub returns-clause-composed_right : goal.returns-clause-composed_right
returns-clause-composed_right c options =
    subst (λ (text : List ℕ). collation_order letters_collation options cote_with_acute text ≡ collation_order letters_collation options cote_with_acute acute_composed) acute_recomposed
    (c.normalising_first_keeps_order.ensures.composed_right letters_collation options cote_with_acute acute_composed letters_is_canonical acute_composed_scalars)
