use Rattle.examples_icu_collator.specs.Letters.{numeric_options}
use Rattle.examples_icu_collator.specs.SameTables.{other_collation, ranged_collation}
use Rattle.examples_icu_collator.proofs.SameTablesLemmas.{same_leads, same_settings}
use Rattle.examples_icu_collator.proofs.same.levels_are_the_same.Goals as goal

pub returns-clause-levels : goal.returns-clause-levels
returns-clause-levels c strength elements list =
    c.same_settings_have_same_levels.ensures other_collation ranged_collation (numeric_options strength) elements list same_settings

pub returns-clause-keys : goal.returns-clause-keys
returns-clause-keys c strength levels =
    c.same_levels_have_same_keys.ensures other_collation ranged_collation (numeric_options strength) levels same_leads same_settings.reordered
