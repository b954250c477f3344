use Rattle.examples_icu_collator.specs.Letters.{numeric_options}
use Rattle.examples_icu_collator.specs.SameTables.{other_collation, ranged_collation}
use Rattle.examples_icu_collator.proofs.LettersLemmas.{letters_is_decomposing}
use Rattle.examples_icu_collator.proofs.SameTablesLemmas.{same_characters, same_weights, same_settings}
use Rattle.examples_icu_collator.proofs.same.answers_are_the_same.Goals as goal

pub returns-clause-levels : goal.returns-clause-levels
returns-clause-levels c strength text scalars =
    c.same_data_have_same_levels.ensures other_collation ranged_collation (numeric_options strength) text
    same_characters same_weights same_settings letters_is_decomposing scalars

pub returns-clause-keys : goal.returns-clause-keys
returns-clause-keys c strength text scalars =
    c.same_data_have_same_keys.ensures other_collation ranged_collation (numeric_options strength) text
    same_characters same_weights same_settings letters_is_decomposing scalars

pub returns-clause-order : goal.returns-clause-order
returns-clause-order c strength x y one other =
    c.same_data_order_alike.ensures other_collation ranged_collation (numeric_options strength) x y
    same_characters same_weights same_settings letters_is_decomposing one other
