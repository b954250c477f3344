-- what the words of the program ask for
use Rattle.std.specs.Prelude.{◌≡◌, ℕ, None, List, [], ◌∷◌}
use Rattle.icu_collator_types.specs.declared.options.CollatorOptions.{CollatorOptions}
use Rattle.icu_collator_types.specs.declared.options.CollatorPreferences.{CollatorPreferences}
use Rattle.collate_choice.specs.GivenOptions.{AreWordsOf}
use Rattle.collate_choice.specs.declared.Choice.{Choice}
use Rattle.collate_choice.specs.declared.given.GivenOptions.{GivenOptions}

-- the options that preferences and options give
abbrev pub options_of : CollatorPreferences → CollatorOptions → GivenOptions
options_of preferences options = record {
  strength = options.strength;
  alternate_handling = options.alternate_handling;
  max_variable = options.max_variable;
  case_level = options.case_level;
  case_first = preferences.case_first;
  numeric_ordering = preferences.numeric_ordering;
}

-- The words are FILE and, in any order, one word for each option that is given; all else has its default.
pub record IsChoice (words : List (List ℕ)) (choice : Choice) : Type 0 where
  pub rest : List (List ℕ)
  pub words_are : words ≡ choice.file.now ∷ rest
  pub given : AreWordsOf (options_of choice.prefs choice.options) rest
  pub locale : choice.prefs.locale.now ≡ []
  pub collation_type : choice.prefs.collation_type ≡ None
