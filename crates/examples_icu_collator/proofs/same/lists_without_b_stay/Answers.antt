use Rattle.std.proofs.Common.{true}
use Rattle.examples_icu_collator.specs.SameTables.{changed_collation, ranged_collation}
use Rattle.examples_icu_collator.proofs.ChangedTableLemmas.{read_alike, same_steps}
use Rattle.examples_icu_collator.proofs.LettersLemmas.{letters_is_decomposing}
use Rattle.examples_icu_collator.proofs.same.lists_without_b_stay.Goals as goal

pub returns-clause-lists : goal.returns-clause-lists
returns-clause-lists c text scalars =
    c.same_mappings_have_same_decomposed_lists.ensures ranged_collation.canonical changed_collation.canonical text
    letters_is_decomposing letters_is_decomposing (same_steps text) scalars

pub returns-clause-elements : goal.returns-clause-elements
returns-clause-elements c text none scalars =
    c.same_readings_have_same_elements.ensures
    ranged_collation.canonical changed_collation.canonical ranged_collation.weights changed_collation.weights true text
    letters_is_decomposing letters_is_decomposing (same_steps text) (read_alike text none).readings scalars
