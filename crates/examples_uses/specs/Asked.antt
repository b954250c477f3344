-- What a caller asks of a collator over a records file, and what it answers.
use Rattle.std.specs.Prelude.{ℕ, List, [], Option, Some, None}
use Rattle.std.specs.declared.cmp.Ordering.{Ordering}
use Rattle.icu_normalizer_core.specs.Decoding.{utf8_chars}
use Rattle.icu_collator_types.specs.declared.options.AlternateHandling.{AlternateHandling}
use Rattle.icu_collator_types.specs.declared.options.AlternateHandling.TheVariants.{Shifted}
use Rattle.icu_collator_types.specs.declared.options.CaseLevel.{CaseLevel}
use Rattle.icu_collator_types.specs.declared.options.CaseLevel.TheVariants.{On}
use Rattle.icu_collator_types.specs.declared.options.CollationCaseFirst.{CollationCaseFirst}
use Rattle.icu_collator_types.specs.declared.options.CollationCaseFirst.TheVariants.{Upper}
use Rattle.icu_collator_types.specs.declared.options.CollationNumericOrdering.{CollationNumericOrdering}
use Rattle.icu_collator_types.specs.declared.options.CollationNumericOrdering.TheVariants.{True as Numeric}
use Rattle.icu_collator_types.specs.declared.options.MaxVariable.{MaxVariable}
use Rattle.icu_collator_types.specs.declared.options.Strength.{Strength}
use Rattle.icu_collator_types.specs.declared.options.Strength.TheVariants.{Secondary}
use Rattle.icu_collator_types.specs.declared.options.CollatorOptions.{CollatorOptions}
use Rattle.icu_collator_types.specs.declared.options.CollatorPreferences.{CollatorPreferences}
use Rattle.icu_collator_types.specs.declared.options.ResolvedCollatorOptions.{ResolvedCollatorOptions}
use Rattle.icu_collator_types.specs.declared.elements.Element.{Element}
use Rattle.icu_collator_types.specs.Options.{resolved_options}
use Rattle.icu_collator.specs.Levels.{elements_of_text}
use Rattle.icu_collator.specs.Order.{collation_order}
use Rattle.examples_uses.specs.Files.{Lines, meant}
use Rattle.collate_lists.specs.Names.{in_order}

-- the options and the preferences of a caller; what is None is not asked
pub record Asked : Type 0 where
  pub strength : Option Strength
  pub alternate : Option AlternateHandling
  pub max_variable : Option MaxVariable
  pub case_level : Option CaseLevel
  pub case_first : Option CollationCaseFirst
  pub numeric : Option CollationNumericOrdering

-- nothing but a strength
abbrev pub at_strength : Strength → Asked
at_strength strength =
    record {
      strength = Some strength;
      alternate = None;
      max_variable = None;
      case_level = None;
      case_first = None;
      numeric = None;
    }

-- numbers by value, at a strength
abbrev pub by_value : Strength → Asked
by_value strength = record (at_strength strength) { numeric = Some Numeric }

-- spaces and punctuation shifted, at a strength
abbrev pub shifted_at : Strength → Asked
shifted_at strength = record (at_strength strength) { alternate = Some Shifted }

-- case as a level of its own above accents, upper case first
abbrev pub accents_then_upper_first : Asked
accents_then_upper_first = record (at_strength Secondary) { case_level = Some On; case_first = Some Upper }

-- what a caller asks as options
abbrev pub asked_options : Asked → CollatorOptions
asked_options asked =
    record {
      strength = asked.strength;
      alternate_handling = asked.alternate;
      max_variable = asked.max_variable;
      case_level = asked.case_level;
    }

-- what a caller asks as preferences; the locale is the empty text
abbrev pub asked_preferences : Asked → CollatorPreferences
asked_preferences asked =
    record {
      locale = record { ref_ptr = (0, 0); now = [] };
      collation_type = None;
      case_first = asked.case_first;
      numeric_ordering = asked.numeric;
    }

-- the options that a collator over a file goes by
abbrev pub options_of : Lines → Asked → ResolvedCollatorOptions
options_of lines asked = resolved_options (asked_options asked) (asked_preferences asked) (meant lines).options

-- the order of two texts, given as characters
abbrev pub order : Lines → Asked → List ℕ → List ℕ → Ordering
order lines asked a b = collation_order (meant lines) (options_of lines asked) a b

-- the elements of a text, given as characters
abbrev pub elements : Lines → Asked → List ℕ → List Element
elements lines asked text = elements_of_text (meant lines) (options_of lines asked) text

-- names, given by their bytes as they arrived, in order
abbrev pub list_of : Lines → Asked → List (List ℕ) → List (List ℕ)
list_of lines asked names = in_order (λ a b. order lines asked (utf8_chars a) (utf8_chars b)) names
