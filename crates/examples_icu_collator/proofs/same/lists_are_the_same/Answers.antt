use Rattle.std.proofs.Common.{true}
use Rattle.examples_icu_collator.specs.SameTables.{other_collation, ranged_collation}
use Rattle.examples_icu_collator.proofs.LettersLemmas.{letters_is_decomposing}
use Rattle.examples_icu_collator.proofs.SameTablesLemmas.{same_characters, same_weights}
use Rattle.examples_icu_collator.proofs.same.lists_are_the_same.Goals as goal

pub returns-clause-lists : goal.returns-clause-lists
returns-clause-lists c text scalars =
    c.same_characters_have_same_decomposed_lists.ensures other_collation.canonical ranged_collation.canonical text same_characters letters_is_decomposing scalars

pub returns-clause-elements : goal.returns-clause-elements
returns-clause-elements c list scalars =
    c.same_weights_have_same_elements.ensures other_collation.canonical ranged_collation.canonical other_collation.weights ranged_collation.weights true list
    same_characters same_weights scalars
