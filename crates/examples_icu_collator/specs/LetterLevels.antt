-- Levels over written tables: a pair of texts for each level that first differ in it.
use Rattle.std.specs.Prelude.{ℕ, List, [], ◌∷◌}
use Rattle.icu_collator_types.specs.declared.elements.Element.{Element}
use Rattle.icu_collator_types.specs.declared.options.AlternateHandling.TheVariants.{Shifted}
use Rattle.icu_collator_types.specs.declared.options.CaseLevel.TheVariants.{On}
use Rattle.icu_collator_types.specs.declared.options.Strength.TheVariants.{Secondary, Quaternary}
use Rattle.icu_collator_types.specs.declared.options.ResolvedCollatorOptions.{ResolvedCollatorOptions}
use Rattle.icu_collator_core.specs.Defaults.{primary_element}
use Rattle.icu_collator_core.specs.Numbers.{number_elements}
use Rattle.examples_icu_collator.specs.Letters.{digits_collation, plain_options}
use Rattle.icu_collator.specs.Levels.{Levels, levels_of}
use Rattle.examples_icu_collator.specs.LetterTables.{accent_element, upper_element}

-- the elements of "a", "b" and "c"
abbrev pub small_a : Element
small_a = primary_element 0x2a100000

abbrev pub small_b : Element
small_b = primary_element 0x2a200000

abbrev pub small_c : Element
small_c = primary_element 0x2a300000

-- the element of "A"
abbrev pub capital_a : Element
capital_a = upper_element 0x2a100000

-- the element of a space
abbrev pub space : Element
space = primary_element 0x3040000

-- the elements of an acute and a circumflex
abbrev pub acute : Element
acute = accent_element 0x8800

abbrev pub circumflex : Element
circumflex = accent_element 0x8a00

-- the elements of the number 7
abbrev pub seven : List Element
seven = number_elements 0x10 (7 ∷ [])

-- the strengths with a level of case, and with shifted spaces
abbrev pub case_options : ResolvedCollatorOptions
case_options = record (plain_options Secondary) { case_level = On }

abbrev pub shifted_options : ResolvedCollatorOptions
shifted_options = record (plain_options Quaternary) { alternate_handling = Shifted }

-- the levels of elements read from a list
abbrev pub letter_levels : ResolvedCollatorOptions → List Element → List ℕ → Levels
letter_levels options elements list = levels_of digits_collation options elements list

abbrev pub levels_of_a : ResolvedCollatorOptions → Levels
levels_of_a options = letter_levels options (small_a ∷ []) (0x61 ∷ [])

abbrev pub levels_of_b : ResolvedCollatorOptions → Levels
levels_of_b options = letter_levels options (small_b ∷ []) (0x62 ∷ [])

abbrev pub levels_of_capital_a : ResolvedCollatorOptions → Levels
levels_of_capital_a options = letter_levels options (capital_a ∷ []) (0x41 ∷ [])

-- "a" with an acute and with a circumflex
abbrev pub levels_of_a_acute : ResolvedCollatorOptions → Levels
levels_of_a_acute options = letter_levels options (small_a ∷ acute ∷ []) (0x61 ∷ 0x301 ∷ [])

abbrev pub levels_of_a_circumflex : ResolvedCollatorOptions → Levels
levels_of_a_circumflex options = letter_levels options (small_a ∷ circumflex ∷ []) (0x61 ∷ 0x302 ∷ [])

-- "a c" and "ac"
abbrev pub levels_of_a_space_c : ResolvedCollatorOptions → Levels
levels_of_a_space_c options = letter_levels options (small_a ∷ space ∷ small_c ∷ []) (0x61 ∷ 0x20 ∷ 0x63 ∷ [])

abbrev pub levels_of_ac : ResolvedCollatorOptions → Levels
levels_of_ac options = letter_levels options (small_a ∷ small_c ∷ []) (0x61 ∷ 0x63 ∷ [])

-- "7" and "07" by value
abbrev pub levels_of_7 : ResolvedCollatorOptions → Levels
levels_of_7 options = letter_levels options seven (0x37 ∷ [])

abbrev pub levels_of_07 : ResolvedCollatorOptions → Levels
levels_of_07 options = letter_levels options seven (0x30 ∷ 0x37 ∷ [])
