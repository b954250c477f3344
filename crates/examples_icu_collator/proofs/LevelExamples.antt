-- A pair of texts for each level over written tables, whose levels before it are equal.
use Rattle.std.proofs.Common.{◌≡◌, ◌≢◌, ◌≤◌, Bool, true, false, [], ◌∷◌, refl, arith}
use Rattle.std.proofs.lemmas.List.Elements.{All-from_recursion}
use Rattle.std.specs.List.{All, AllByRecursion}
use Rattle.std.specs.Char.{IsScalar}
use Rattle.std.specs.declared.cmp.Ordering.TheVariants.{Equal, Less, Greater}
use Rattle.icu_collator_types.specs.declared.options.ResolvedCollatorOptions.{ResolvedCollatorOptions}
use Rattle.icu_collator_types.specs.declared.options.Strength.{Strength}
use Rattle.icu_collator_types.specs.Options.{is_numeric}
use Rattle.icu_collator_types.specs.declared.options.Strength.TheVariants.{Primary, Secondary, Tertiary, Identical}
use Rattle.icu_collator_core.specs.Numbers.{significant, pairs_of, without_last_zeros, pair_bytes, elements_of_bytes, long_number, number_part, number_parts}
use Rattle.icu_collator_core.specs.SoundElements.{IsSoundSequence, single, nothing, number, of_record}
use Rattle.icu_collator_core.specs.WeightRules.{IsRecorded}
use Rattle.examples_icu_collator.specs.Letters.{digits_collation, plain_options, numeric_options}
use Rattle.examples_icu_collator.specs.LetterLevels.{small_a, small_b, small_c, capital_a, space, acute, circumflex, seven, case_options, shifted_options, levels_of_a, levels_of_b, levels_of_capital_a, levels_of_a_acute, levels_of_a_circumflex, levels_of_a_space_c, levels_of_ac, levels_of_7, levels_of_07}
use Rattle.icu_collator.specs.LevelOrders.{primaries_order, secondaries_order, cases_order, tertiaries_order, quaternaries_order, characters_order}
use Rattle.icu_collator.specs.Levels.{levels_of}
use Rattle.icu_collator.specs.Order.{levels_order}
use Rattle.icu_collator.specs.SoundCollation.{AreSoundLevels, read}
use Rattle.examples_icu_collator.specs.Tables.{recorded_of}
use Rattle.examples_icu_collator.proofs.Computing.{computing}

small_a_is_recorded : IsRecorded digits_collation.weights small_a
unfolding recorded_of
small_a_is_recorded = ([], 0x61 ∷ [], small_a ∷ [], refl, (0, omega arith, refl))

small_b_is_recorded : IsRecorded digits_collation.weights small_b
unfolding recorded_of
small_b_is_recorded = ([], 0x62 ∷ [], small_b ∷ [], refl, (0, omega arith, refl))

small_c_is_recorded : IsRecorded digits_collation.weights small_c
unfolding recorded_of
small_c_is_recorded = ([], 0x63 ∷ [], small_c ∷ [], refl, (0, omega arith, refl))

capital_a_is_recorded : IsRecorded digits_collation.weights capital_a
unfolding recorded_of
capital_a_is_recorded = ([], 0x41 ∷ [], capital_a ∷ [], refl, (0, omega arith, refl))

space_is_recorded : IsRecorded digits_collation.weights space
unfolding recorded_of
space_is_recorded = ([], 0x20 ∷ [], space ∷ [], refl, (0, omega arith, refl))

acute_is_recorded : IsRecorded digits_collation.weights acute
unfolding recorded_of
acute_is_recorded = ([], 0x301 ∷ [], acute ∷ [], refl, (0, omega arith, refl))

circumflex_is_recorded : IsRecorded digits_collation.weights circumflex
unfolding recorded_of
circumflex_is_recorded = ([], 0x302 ∷ [], circumflex ∷ [], refl, (0, omega arith, refl))

-- elements of the texts, with numeric ordering or without
only_a : (numeric : Bool) → IsSoundSequence digits_collation.weights numeric (small_a ∷ [])
only_a numeric = single _ _ (of_record _ small_a_is_recorded) nothing

only_b : (numeric : Bool) → IsSoundSequence digits_collation.weights numeric (small_b ∷ [])
only_b numeric = single _ _ (of_record _ small_b_is_recorded) nothing

only_capital : (numeric : Bool) → IsSoundSequence digits_collation.weights numeric (capital_a ∷ [])
only_capital numeric = single _ _ (of_record _ capital_a_is_recorded) nothing

a_acute : (numeric : Bool) → IsSoundSequence digits_collation.weights numeric (small_a ∷ acute ∷ [])
a_acute numeric = single _ _ (of_record _ small_a_is_recorded) (single _ _ (of_record _ acute_is_recorded) nothing)

a_circumflex : (numeric : Bool) → IsSoundSequence digits_collation.weights numeric (small_a ∷ circumflex ∷ [])
a_circumflex numeric = single _ _ (of_record _ small_a_is_recorded) (single _ _ (of_record _ circumflex_is_recorded) nothing)

a_then_c : (numeric : Bool) → IsSoundSequence digits_collation.weights numeric (small_a ∷ small_c ∷ [])
a_then_c numeric = single _ _ (of_record _ small_a_is_recorded) (single _ _ (of_record _ small_c_is_recorded) nothing)

a_space_c : (numeric : Bool) → IsSoundSequence digits_collation.weights numeric (small_a ∷ space ∷ small_c ∷ [])
a_space_c numeric =
    single _ _ (of_record _ small_a_is_recorded)
    (single _ _ (of_record _ space_is_recorded) (single _ _ (of_record _ small_c_is_recorded) nothing))

one_seven : IsSoundSequence digits_collation.weights true seven
unfolding number_parts number_part significant long_number
one_seven =
    let each : AllByRecursion (λ d. d ≤ 9) (7 ∷ []) = (omega arith, tt) in
    number (7 ∷ []) [] refl (record { filled = omega arith; up_to_nine = All-from_recursion (λ d. d ≤ 9) (7 ∷ []) each }) nothing

-- the lists that they were read from
scalars_a : All IsScalar (0x61 ∷ [])
scalars_a = let each : AllByRecursion IsScalar (0x61 ∷ []) = (refl, tt) in All-from_recursion IsScalar (0x61 ∷ []) each

scalars_b : All IsScalar (0x62 ∷ [])
scalars_b = let each : AllByRecursion IsScalar (0x62 ∷ []) = (refl, tt) in All-from_recursion IsScalar (0x62 ∷ []) each

scalars_capital : All IsScalar (0x41 ∷ [])
scalars_capital = let each : AllByRecursion IsScalar (0x41 ∷ []) = (refl, tt) in All-from_recursion IsScalar (0x41 ∷ []) each

scalars_acute : All IsScalar (0x61 ∷ 0x301 ∷ [])
scalars_acute = let each : AllByRecursion IsScalar (0x61 ∷ 0x301 ∷ []) = (refl, (refl, tt)) in All-from_recursion IsScalar (0x61 ∷ 0x301 ∷ []) each

scalars_circumflex : All IsScalar (0x61 ∷ 0x302 ∷ [])
scalars_circumflex = let each : AllByRecursion IsScalar (0x61 ∷ 0x302 ∷ []) = (refl, (refl, tt)) in All-from_recursion IsScalar (0x61 ∷ 0x302 ∷ []) each

scalars_ac : All IsScalar (0x61 ∷ 0x63 ∷ [])
scalars_ac = let each : AllByRecursion IsScalar (0x61 ∷ 0x63 ∷ []) = (refl, (refl, tt)) in All-from_recursion IsScalar (0x61 ∷ 0x63 ∷ []) each

scalars_a_c : All IsScalar (0x61 ∷ 0x20 ∷ 0x63 ∷ [])
scalars_a_c = let each : AllByRecursion IsScalar (0x61 ∷ 0x20 ∷ 0x63 ∷ []) = (refl, (refl, (refl, tt))) in All-from_recursion IsScalar (0x61 ∷ 0x20 ∷ 0x63 ∷ []) each

scalars_7 : All IsScalar (0x37 ∷ [])
scalars_7 = let each : AllByRecursion IsScalar (0x37 ∷ []) = (refl, tt) in All-from_recursion IsScalar (0x37 ∷ []) each

scalars_07 : All IsScalar (0x30 ∷ 0x37 ∷ [])
scalars_07 = let each : AllByRecursion IsScalar (0x30 ∷ 0x37 ∷ []) = (refl, (refl, tt)) in All-from_recursion IsScalar (0x30 ∷ 0x37 ∷ []) each

-- "a" and "b", one after the other
a_then_b : (numeric : Bool) → IsSoundSequence digits_collation.weights numeric (small_a ∷ small_b ∷ [])
a_then_b numeric = single _ _ (of_record _ small_a_is_recorded) (only_b numeric)

scalars_a_b : All IsScalar (0x61 ∷ 0x62 ∷ [])
scalars_a_b = let each : AllByRecursion IsScalar (0x61 ∷ 0x62 ∷ []) = (refl, (refl, tt)) in All-from_recursion IsScalar (0x61 ∷ 0x62 ∷ []) each

-- so the levels are sound
pub a_then_b_sound : AreSoundLevels digits_collation (plain_options Tertiary) (levels_of digits_collation (plain_options Tertiary) (small_a ∷ small_b ∷ []) (0x61 ∷ 0x62 ∷ []))
a_then_b_sound = read _ _ (a_then_b false) scalars_a_b

pub a_sound : (options : ResolvedCollatorOptions) → AreSoundLevels digits_collation options (levels_of_a options)
a_sound options = read _ _ (only_a (is_numeric options.numeric)) scalars_a

pub b_sound : (options : ResolvedCollatorOptions) → AreSoundLevels digits_collation options (levels_of_b options)
b_sound options = read _ _ (only_b (is_numeric options.numeric)) scalars_b

pub capital_a_sound : (options : ResolvedCollatorOptions) → AreSoundLevels digits_collation options (levels_of_capital_a options)
capital_a_sound options = read _ _ (only_capital (is_numeric options.numeric)) scalars_capital

pub a_acute_sound : (options : ResolvedCollatorOptions) → AreSoundLevels digits_collation options (levels_of_a_acute options)
a_acute_sound options = read _ _ (a_acute (is_numeric options.numeric)) scalars_acute

pub a_circumflex_sound : (options : ResolvedCollatorOptions) → AreSoundLevels digits_collation options (levels_of_a_circumflex options)
a_circumflex_sound options = read _ _ (a_circumflex (is_numeric options.numeric)) scalars_circumflex

pub ac_sound : (options : ResolvedCollatorOptions) → AreSoundLevels digits_collation options (levels_of_ac options)
ac_sound options = read _ _ (a_then_c (is_numeric options.numeric)) scalars_ac

pub a_space_c_sound : (options : ResolvedCollatorOptions) → AreSoundLevels digits_collation options (levels_of_a_space_c options)
a_space_c_sound options = read _ _ (a_space_c (is_numeric options.numeric)) scalars_a_c

pub sound_7 : (strength : Strength) → AreSoundLevels digits_collation (numeric_options strength) (levels_of_7 (numeric_options strength))
sound_7 strength = read _ _ one_seven scalars_7

pub sound_07 : (strength : Strength) → AreSoundLevels digits_collation (numeric_options strength) (levels_of_07 (numeric_options strength))
sound_07 strength = read _ _ one_seven scalars_07

unfoldable with_numbers : Unit {0}
unfolding computing pairs_of without_last_zeros pair_bytes elements_of_bytes long_number
with_numbers = tt

-- "a" and "b" differ in their primaries
pub primaries_order_them : primaries_order (levels_of_a (plain_options Primary)) (levels_of_b (plain_options Primary)) ≡ Less
unfolding computing
primaries_order_them = refl

pub primaries_differ : primaries_order (levels_of_a (plain_options Primary)) (levels_of_b (plain_options Primary)) ≢ Equal
primaries_differ h = let order : primaries_order (levels_of_a (plain_options Primary)) (levels_of_b (plain_options Primary)) ≡ Less = primaries_order_them in cc

-- "a" with an acute and with a circumflex differ in their secondaries alone
pub secondaries_after_primaries : primaries_order (levels_of_a_acute (plain_options Secondary)) (levels_of_a_circumflex (plain_options Secondary)) ≡ Equal
unfolding computing
secondaries_after_primaries = refl

pub secondaries_order_them : secondaries_order (plain_options Secondary) (levels_of_a_acute (plain_options Secondary)) (levels_of_a_circumflex (plain_options Secondary)) ≡ Less
unfolding computing
secondaries_order_them = refl

pub secondaries_differ : secondaries_order (plain_options Secondary) (levels_of_a_acute (plain_options Secondary)) (levels_of_a_circumflex (plain_options Secondary)) ≢ Equal
secondaries_differ h = let order : secondaries_order (plain_options Secondary) (levels_of_a_acute (plain_options Secondary)) (levels_of_a_circumflex (plain_options Secondary)) ≡ Less = secondaries_order_them in cc

-- "a" and "A" differ in their cases
pub cases_after_primaries : primaries_order (levels_of_a case_options) (levels_of_capital_a case_options) ≡ Equal
unfolding computing
cases_after_primaries = refl

pub cases_after_secondaries : secondaries_order case_options (levels_of_a case_options) (levels_of_capital_a case_options) ≡ Equal
unfolding computing
cases_after_secondaries = refl

pub cases_order_them : cases_order case_options (levels_of_a case_options) (levels_of_capital_a case_options) ≡ Less
unfolding computing
cases_order_them = refl

pub cases_differ : cases_order case_options (levels_of_a case_options) (levels_of_capital_a case_options) ≢ Equal
cases_differ h = let order : cases_order case_options (levels_of_a case_options) (levels_of_capital_a case_options) ≡ Less = cases_order_them in cc

-- and in their tertiaries
pub tertiaries_after_primaries : primaries_order (levels_of_a (plain_options Tertiary)) (levels_of_capital_a (plain_options Tertiary)) ≡ Equal
unfolding computing
tertiaries_after_primaries = refl

pub tertiaries_after_secondaries : secondaries_order (plain_options Tertiary) (levels_of_a (plain_options Tertiary)) (levels_of_capital_a (plain_options Tertiary)) ≡ Equal
unfolding computing
tertiaries_after_secondaries = refl

pub tertiaries_after_cases : cases_order (plain_options Tertiary) (levels_of_a (plain_options Tertiary)) (levels_of_capital_a (plain_options Tertiary)) ≡ Equal
unfolding computing
tertiaries_after_cases = refl

pub tertiaries_order_them : tertiaries_order (plain_options Tertiary) (levels_of_a (plain_options Tertiary)) (levels_of_capital_a (plain_options Tertiary)) ≡ Less
unfolding computing
tertiaries_order_them = refl

pub tertiaries_differ : tertiaries_order (plain_options Tertiary) (levels_of_a (plain_options Tertiary)) (levels_of_capital_a (plain_options Tertiary)) ≢ Equal
tertiaries_differ h = let order : tertiaries_order (plain_options Tertiary) (levels_of_a (plain_options Tertiary)) (levels_of_capital_a (plain_options Tertiary)) ≡ Less = tertiaries_order_them in cc

-- "a c" and "ac" differ in the space that is shifted
pub quaternaries_after_primaries : primaries_order (levels_of_a_space_c shifted_options) (levels_of_ac shifted_options) ≡ Equal
unfolding computing
quaternaries_after_primaries = refl

pub quaternaries_after_secondaries : secondaries_order shifted_options (levels_of_a_space_c shifted_options) (levels_of_ac shifted_options) ≡ Equal
unfolding computing
quaternaries_after_secondaries = refl

pub quaternaries_after_cases : cases_order shifted_options (levels_of_a_space_c shifted_options) (levels_of_ac shifted_options) ≡ Equal
unfolding computing
quaternaries_after_cases = refl

pub quaternaries_after_tertiaries : tertiaries_order shifted_options (levels_of_a_space_c shifted_options) (levels_of_ac shifted_options) ≡ Equal
unfolding computing
quaternaries_after_tertiaries = refl

pub quaternaries_order_them : quaternaries_order shifted_options (levels_of_a_space_c shifted_options) (levels_of_ac shifted_options) ≡ Less
unfolding computing
quaternaries_order_them = refl

pub quaternaries_differ : quaternaries_order shifted_options (levels_of_a_space_c shifted_options) (levels_of_ac shifted_options) ≢ Equal
quaternaries_differ h = let order : quaternaries_order shifted_options (levels_of_a_space_c shifted_options) (levels_of_ac shifted_options) ≡ Less = quaternaries_order_them in cc

-- "7" and "07" are one number and differ in their characters
pub characters_after_primaries : primaries_order (levels_of_7 (numeric_options Identical)) (levels_of_07 (numeric_options Identical)) ≡ Equal
unfolding with_numbers
characters_after_primaries = refl

pub characters_after_secondaries : secondaries_order (numeric_options Identical) (levels_of_7 (numeric_options Identical)) (levels_of_07 (numeric_options Identical)) ≡ Equal
unfolding with_numbers
characters_after_secondaries = refl

pub characters_after_cases : cases_order (numeric_options Identical) (levels_of_7 (numeric_options Identical)) (levels_of_07 (numeric_options Identical)) ≡ Equal
unfolding with_numbers
characters_after_cases = refl

pub characters_after_tertiaries : tertiaries_order (numeric_options Identical) (levels_of_7 (numeric_options Identical)) (levels_of_07 (numeric_options Identical)) ≡ Equal
unfolding with_numbers
characters_after_tertiaries = refl

pub characters_after_quaternaries : quaternaries_order (numeric_options Identical) (levels_of_7 (numeric_options Identical)) (levels_of_07 (numeric_options Identical)) ≡ Equal
unfolding with_numbers
characters_after_quaternaries = refl

pub characters_order_them : characters_order (numeric_options Identical) (levels_of_7 (numeric_options Identical)) (levels_of_07 (numeric_options Identical)) ≡ Greater
unfolding with_numbers
characters_order_them = refl

pub characters_differ : characters_order (numeric_options Identical) (levels_of_7 (numeric_options Identical)) (levels_of_07 (numeric_options Identical)) ≢ Equal
characters_differ h = let order : characters_order (numeric_options Identical) (levels_of_7 (numeric_options Identical)) (levels_of_07 (numeric_options Identical)) ≡ Greater = characters_order_them in cc

-- at a lower strength no level of "7" and "07" differs
pub sevens_are_equal : levels_order (numeric_options Tertiary) (levels_of_7 (numeric_options Tertiary)) (levels_of_07 (numeric_options Tertiary)) ≡ Equal
unfolding with_numbers
sevens_are_equal = refl

-- the key of "ab" is below that of "b"
pub a_then_b_is_below : levels_order (plain_options Tertiary) (levels_of digits_collation (plain_options Tertiary) (small_a ∷ small_b ∷ []) (0x61 ∷ 0x62 ∷ [])) (levels_of digits_collation (plain_options Tertiary) (small_b ∷ []) (0x62 ∷ [])) ≡ Less
unfolding computing
a_then_b_is_below = refl
