use Rattle.examples_icu_collator.specs.Letters.{numeric_options}
use Rattle.examples_icu_collator.specs.SameTables.{changed_collation, ranged_collation}
use Rattle.examples_icu_collator.proofs.ChangedTableLemmas.{read_alike, same_leads, same_settings}
use Rattle.examples_icu_collator.proofs.LettersLemmas.{letters_is_decomposing}
use Rattle.examples_icu_collator.proofs.same.answers_without_b_stay.Goals as goal

pub returns-clause-levels : goal.returns-clause-levels
returns-clause-levels c strength text none scalars =
    c.unchanged_texts_have_same_levels.ensures ranged_collation changed_collation (numeric_options strength) text
    letters_is_decomposing letters_is_decomposing same_settings (read_alike text none) scalars

pub returns-clause-keys : goal.returns-clause-keys
returns-clause-keys c strength text none scalars =
    c.unchanged_texts_have_same_keys.ensures ranged_collation changed_collation (numeric_options strength) text
    letters_is_decomposing letters_is_decomposing same_settings (read_alike text none) same_leads scalars

pub returns-clause-order : goal.returns-clause-order
returns-clause-order c strength x y none other one two =
    c.unchanged_texts_order_alike.ensures ranged_collation changed_collation (numeric_options strength) x y
    letters_is_decomposing letters_is_decomposing same_settings (read_alike x none) (read_alike y other) one two
