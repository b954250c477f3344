-- The collations that the laws are applied to, with options and texts.
use Rattle.std.specs.Prelude.{ℕ, List, [], ◌∷◌}
use Rattle.icu_normalizer_core.specs.Canonical.{Canonical}
use Rattle.icu_collator_types.specs.declared.options.AlternateHandling.TheVariants.{NonIgnorable}
use Rattle.icu_collator_types.specs.declared.options.CaseLevel.TheVariants.{Off}
use Rattle.icu_collator_types.specs.declared.options.CollationCaseFirst.TheVariants.{False as NoCaseFirst}
use Rattle.icu_collator_types.specs.declared.options.CollationNumericOrdering.TheVariants.{False as NotNumeric, True as Numeric}
use Rattle.icu_collator_types.specs.declared.options.MaxVariable.TheVariants.{Space}
use Rattle.icu_collator_types.specs.declared.options.Strength.{Strength}
use Rattle.icu_collator_types.specs.declared.options.ResolvedCollatorOptions.{ResolvedCollatorOptions}
use Rattle.icu_collator_core.specs.Collation.{Collation}
use Rattle.icu_collator_core.specs.Weights.{Range}
use Rattle.examples_icu_collator.specs.Tables.{Table, canonical_of, collation_of}
use Rattle.examples_icu_collator.specs.LetterTables.{letters_table, upper_a, with_records, with_stops, with_digits}

-- eight letters, three accents and two composed letters
abbrev pub letters : Canonical
letters = canonical_of letters_table

abbrev pub letters_collation : Collation
letters_collation = collation_of letters_table

-- the same with the capital of "a", a space, a full stop, and the ten digits, which by themselves are letters
abbrev pub digits_table : Table
digits_table = with_digits (with_records (upper_a ∷ []) (with_stops letters_table))

abbrev pub digits_collation : Collation
digits_collation = collation_of digits_table

-- a range of ideographs, and the same records with it
abbrev pub ideographs : Range
ideographs = record { first = 0x4e00; last = 0x9fff; primary = 0xe0020200; step = 1 }

abbrev pub ideographs_collation : Collation
ideographs_collation = collation_of (record digits_table { ranges = ideographs ∷ [] })

-- the options of such a collation at a strength, where nothing else is asked for
abbrev pub plain_options : Strength → ResolvedCollatorOptions
plain_options s =
    record {
      strength = s;
      alternate_handling = NonIgnorable;
      case_first = NoCaseFirst;
      max_variable = Space;
      case_level = Off;
      numeric = NotNumeric;
    }

-- the same with numeric ordering
abbrev pub numeric_options : Strength → ResolvedCollatorOptions
numeric_options s = record (plain_options s) { numeric = Numeric }

-- one text in four spellings: "a" with an acute and a dot below
abbrev pub acute_composed : List ℕ
acute_composed = 0xe1 ∷ 0x323 ∷ []

abbrev pub dot_composed : List ℕ
dot_composed = 0x1ea1 ∷ 0x301 ∷ []

abbrev pub acute_before_dot : List ℕ
acute_before_dot = 0x61 ∷ 0x301 ∷ 0x323 ∷ []

abbrev pub dot_before_acute : List ℕ
dot_before_acute = 0x61 ∷ 0x323 ∷ 0x301 ∷ []

-- "cote" with an acute on the last letter, and with a circumflex on the second
abbrev pub cote_with_acute : List ℕ
cote_with_acute = 0x63 ∷ 0x6f ∷ 0x74 ∷ 0x65 ∷ 0x301 ∷ []

abbrev pub cote_with_circumflex : List ℕ
cote_with_circumflex = 0x63 ∷ 0x6f ∷ 0x302 ∷ 0x74 ∷ 0x65 ∷ []
