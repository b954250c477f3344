use Rattle.std.proofs.Common.{◌≡◌, ℕ, List, subst}
use Rattle.examples_icu_collator.specs.Letters.{letters_collation, acute_composed}
use Rattle.icu_collator.specs.Levels.{levels_of_text}
use Rattle.examples_icu_collator.proofs.LettersLemmas.{letters_is_decomposing}
use Rattle.examples_icu_collator.proofs.LetterPairsLemmas.{letters_is_canonical}
use Rattle.examples_icu_collator.proofs.TextExamples.{acute_composed_scalars, acute_decomposed, acute_recomposed}
use Rattle.examples_icu_collator.proofs.order.levels_of_spellings.Goals as goal

pub returns-clause-decomposed : goal.returns-clause-decomposed
returns-clause-decomposed c options =
    subst (λ (text : List ℕ). levels_of_text letters_collation options text ≡ levels_of_text letters_collation options acute_composed) acute_decomposed
    (c.normalising_keeps_levels.ensures.decomposed letters_collation options acute_composed letters_is_decomposing acute_composed_scalars)

pub returns-clause-composed : goal.returns-clause-composed
returns-clause-composed c options =
    subst (λ (text : List ℕ). levels_of_text letters_collation options text ≡ levels_of_text letters_collation options acute_composed) acute_recomposed
    (c.normalising_keeps_levels.ensures.composed letters_collation options acute_composed letters_is_canonical acute_composed_scalars)
