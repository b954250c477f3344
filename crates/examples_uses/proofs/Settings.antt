-- What a file sets besides its characters.
use Rattle.std.specs.Prelude.{◌≡◌, [], ◌∷◌, ◌++◌, Some, refl, codes}
use Rattle.std.specs.declared.cmp.Ordering.TheVariants.{Less, Equal, Greater}
use Rattle.icu_collator_types.specs.declared.options.AlternateHandling.TheVariants.{NonIgnorable}
use Rattle.icu_collator_types.specs.declared.options.CollationCaseFirst.TheVariants.{Lower}
use Rattle.icu_collator_types.specs.declared.options.Strength.TheVariants.{Primary, Tertiary, Quaternary, Identical}
use Rattle.icu_collator_core.specs.Defaults.{primary_element}
use Rattle.examples_uses.specs.Files.{Lines}
use Rattle.examples_uses.specs.Asked.{at_strength, by_value, shifted_at, order, elements}
use Rattle.examples_uses.specs.Letters.{letters, with_digits, with_punctuation, with_stops}
use Rattle.examples_uses.proofs.WorkedComputing.{computing}

pub a_is_below_t : order letters (at_strength Primary) (codes "a") (codes "t") ≡ Less
unfolding computing
a_is_below_t = refl

-- Where the leads of "a" and of "t" change places, "a" is above "t".
pub a_is_above_t_reordered :
    order (letters ++ codes "set reorder 2A 2B 2B 2A" ∷ []) (at_strength Primary) (codes "a") (codes "t") ≡ Greater
unfolding computing
a_is_above_t_reordered = refl

-- spaces and punctuation shifted by the file
abbrev shifted_by_file : Lines
shifted_by_file = with_punctuation ++ codes "set alternate shifted" ∷ []

-- A space counts for nothing, though the caller asks for no handling of spaces;
pub a_space_c_is_ac_by_the_file : order shifted_by_file (at_strength Tertiary) (codes "a c") (codes "ac") ≡ Equal
unfolding computing
a_space_c_is_ac_by_the_file = refl

-- but the caller's word wins over the file's.
pub a_space_c_is_below_ac_by_the_caller :
    order shifted_by_file (record (at_strength Tertiary) { alternate = Some NonIgnorable }) (codes "a c") (codes "ac") ≡ Less
unfolding computing
a_space_c_is_below_ac_by_the_caller = refl

-- In a file that says so in so many words, a space counts as a letter does.
pub a_space_c_is_below_ac_nonignorable :
    order (with_punctuation ++ codes "set alternate nonignorable" ∷ []) (at_strength Tertiary) (codes "a c") (codes "ac") ≡ Less
unfolding computing
a_space_c_is_below_ac_nonignorable = refl

-- A file that sets no variable group has spaces as the last one: a full stop counts as a letter does.
pub stops_count_by_default : order with_stops (shifted_at Tertiary) (codes "a.c") (codes "ac") ≡ Less
unfolding computing
stops_count_by_default = refl

-- a plus sign and a dollar sign, a symbol and a currency sign
abbrev with_symbols : Lines
with_symbols =
    letters ++ codes "w 002B ; [030B0000.0500.0.0500.0]" ∷ codes "w 0024 ; [030D0000.0500.0.0500.0]"
    ∷ codes "set groups 0306 030A 030C 030E" ∷ []

-- Where symbols are the last variable group, a plus sign counts for nothing and a dollar sign does count.
pub plus_counts_for_nothing :
    order (with_symbols ++ codes "set maxvariable symbol" ∷ []) (shifted_at Tertiary) (codes "a+c") (codes "ac") ≡ Equal
unfolding computing
plus_counts_for_nothing = refl

pub dollar_counts :
    order (with_symbols ++ codes "set maxvariable symbol" ∷ []) (shifted_at Tertiary) (codes "a$c") (codes "ac") ≡ Less
unfolding computing
dollar_counts = refl

-- Where currency signs are, neither counts.
pub dollar_counts_for_nothing :
    order (with_symbols ++ codes "set maxvariable currency" ∷ []) (shifted_at Tertiary) (codes "a$c+") (codes "ac") ≡ Equal
unfolding computing
dollar_counts_for_nothing = refl

-- Where spaces are, by the file's own words, both count.
pub plus_counts_by_spaces :
    order (with_symbols ++ codes "set maxvariable space" ∷ []) (shifted_at Tertiary) (codes "a+c") (codes "ac") ≡ Less
unfolding computing
plus_counts_by_spaces = refl

-- "A" that only its case sets apart from "a"
abbrev with_case_alone : Lines
with_case_alone = letters ++ codes "w 0041 ; [2A100000.0500.2.0500.0]" ∷ []

-- Without a case that comes first, case counts for nothing.
pub a_is_upper_a : order with_case_alone (at_strength Tertiary) (codes "a") (codes "A") ≡ Equal
unfolding computing
a_is_upper_a = refl

pub a_is_upper_a_by_the_file :
    order (with_case_alone ++ codes "set casefirst off" ∷ []) (at_strength Tertiary) (codes "a") (codes "A") ≡ Equal
unfolding computing
a_is_upper_a_by_the_file = refl

-- Which case comes first, the file can say,
pub a_is_below_upper_a_by_the_file :
    order (with_case_alone ++ codes "set casefirst lower" ∷ []) (at_strength Tertiary) (codes "a") (codes "A") ≡ Less
unfolding computing
a_is_below_upper_a_by_the_file = refl

pub a_is_above_upper_a_by_the_file :
    order (with_case_alone ++ codes "set casefirst upper" ∷ []) (at_strength Tertiary) (codes "a") (codes "A") ≡ Greater
unfolding computing
a_is_above_upper_a_by_the_file = refl

-- unless the caller does.
pub a_is_below_upper_a_by_the_caller :
    order (with_case_alone ++ codes "set casefirst upper" ∷ [])
    (record (at_strength Tertiary) { case_first = Some Lower })
    (codes "a")
    (codes "A")
    ≡ Less
unfolding computing
a_is_below_upper_a_by_the_caller = refl

-- Numbers by value have the lead that the file sets.
pub elements_of_73_under_another_lead :
    elements (with_digits ++ codes "set numeric 12" ∷ []) (by_value Primary) (codes "73") ≡ primary_element 0x124b0000 ∷ []
unfolding computing
elements_of_73_under_another_lead = refl

-- all marks from U+0300 to U+0307
abbrev with_marks : Lines
with_marks =
    letters ++ codes "class 0303 230" ∷ codes "class 0304 230" ∷ codes "class 0305 230" ∷ codes "class 0306 230" ∷ codes "class 0307 230"
    ∷ codes "w 0300 ; [0.8100.0.0500.0]" ∷ codes "w 0303 ; [0.8300.0.0500.0]" ∷ codes "w 0304 ; [0.8400.0.0500.0]"
    ∷ codes "w 0305 ; [0.8500.0.0500.0]" ∷ codes "w 0306 ; [0.8600.0.0500.0]" ∷ codes "w 0307 ; [0.8700.0.0500.0]" ∷ []

-- the same, where a dot above is dropped
abbrev with_dot_above : Lines
with_dot_above = with_marks ++ codes "set dotabove on" ∷ []

-- Before an acute it is dropped,
pub dot_is_dropped_before_acute :
    order with_dot_above (at_strength Quaternary) (codes "ȧ́") (codes "á") ≡ Equal
unfolding computing
dot_is_dropped_before_acute = refl

-- but not among the characters,
pub dropped_dot_is_a_character :
    order with_dot_above (at_strength Identical) (codes "ȧ́") (codes "á") ≡ Greater
unfolding computing
dropped_dot_is_a_character = refl

-- and not before a circumflex.
pub dot_stays_before_circumflex :
    order with_dot_above (at_strength Quaternary) (codes "ȧ̂") (codes "â") ≡ Less
unfolding computing
dot_stays_before_circumflex = refl

-- Where the file says off, or nothing, it stays before an acute too.
pub dot_stays_off :
    order (with_marks ++ codes "set dotabove off" ∷ []) (at_strength Quaternary) (codes "ȧ́") (codes "á") ≡ Less
unfolding computing
dot_stays_off = refl

pub dot_stays_by_default : order with_marks (at_strength Quaternary) (codes "ȧ́") (codes "á") ≡ Less
unfolding computing
dot_stays_by_default = refl
