-- the words that give options
use Rattle.std.specs.Prelude.{ℕ, List, codes}
use Rattle.icu_collator_types.specs.declared.options.AlternateHandling.{AlternateHandling}
use Rattle.icu_collator_types.specs.declared.options.AlternateHandling.TheVariants.{NonIgnorable, Shifted}
use Rattle.icu_collator_types.specs.declared.options.CaseLevel.{CaseLevel}
use Rattle.icu_collator_types.specs.declared.options.CaseLevel.TheVariants.{Off, On}
use Rattle.icu_collator_types.specs.declared.options.CollationCaseFirst.{CollationCaseFirst}
use Rattle.icu_collator_types.specs.declared.options.CollationCaseFirst.TheVariants.{False as NoCaseFirst, Lower, Upper}
use Rattle.icu_collator_types.specs.declared.options.CollationNumericOrdering.{CollationNumericOrdering}
use Rattle.icu_collator_types.specs.declared.options.CollationNumericOrdering.TheVariants.{False as NotNumeric, True as IsNumeric}
use Rattle.icu_collator_types.specs.declared.options.MaxVariable.{MaxVariable}
use Rattle.icu_collator_types.specs.declared.options.MaxVariable.TheVariants.{Space, Punctuation, Symbol, Currency}
use Rattle.icu_collator_types.specs.declared.options.Strength.{Strength}
use Rattle.icu_collator_types.specs.declared.options.Strength.TheVariants.{Primary, Secondary, Tertiary, Quaternary, Identical}
use Rattle.collate_choice.specs.declared.option_words.GivenOption.{GivenOption}
use Rattle.collate_choice.specs.declared.option_words.GivenOption.TheVariants.{GivenStrength, GivenHandling, GivenVariable, GivenCaseLevel, GivenCaseFirst, GivenOrdering}

abbrev pub strength_word : Strength → List ℕ
strength_word Primary = codes "strength=primary"
strength_word Secondary = codes "strength=secondary"
strength_word Tertiary = codes "strength=tertiary"
strength_word Quaternary = codes "strength=quaternary"
strength_word Identical = codes "strength=identical"

abbrev pub handling_word : AlternateHandling → List ℕ
handling_word NonIgnorable = codes "alternate=nonignorable"
handling_word Shifted = codes "alternate=shifted"

abbrev pub variable_word : MaxVariable → List ℕ
variable_word Space = codes "maxvariable=space"
variable_word Punctuation = codes "maxvariable=punctuation"
variable_word Symbol = codes "maxvariable=symbol"
variable_word Currency = codes "maxvariable=currency"

abbrev pub case_level_word : CaseLevel → List ℕ
case_level_word Off = codes "caselevel=off"
case_level_word On = codes "caselevel=on"

abbrev pub case_first_word : CollationCaseFirst → List ℕ
case_first_word NoCaseFirst = codes "casefirst=off"
case_first_word Lower = codes "casefirst=lower"
case_first_word Upper = codes "casefirst=upper"

abbrev pub ordering_word : CollationNumericOrdering → List ℕ
ordering_word NotNumeric = codes "numeric=off"
ordering_word IsNumeric = codes "numeric=on"

-- the word that gives an option
abbrev pub option_word : GivenOption → List ℕ
option_word (GivenStrength strength) = strength_word strength
option_word (GivenHandling handling) = handling_word handling
option_word (GivenVariable variable) = variable_word variable
option_word (GivenCaseLevel level) = case_level_word level
option_word (GivenCaseFirst first) = case_first_word first
option_word (GivenOrdering ordering) = ordering_word ordering
