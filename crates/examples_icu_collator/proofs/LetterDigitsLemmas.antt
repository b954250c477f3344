-- The digits of the written tables keep what the law of numbers asks, and some numbers in texts of these.
use Rattle.std.proofs.Common.{◌≡◌, ℕ, ◌<◌, ◌≤◌, true, leb, List, [], ◌∷◌, refl, subst, arith, Option, Some, None}
use Rattle.std.proofs.lemmas.Bool.{and_parts, false≢true, leb-true}
use Rattle.std.proofs.lemmas.Bool.Decides.{nat_tests}
use Rattle.std.proofs.lemmas.List.Elements.{recursion_from_All}
use Rattle.std.proofs.lemmas.List.Sums.{AllPass-from_list_all}
use Rattle.std.specs.Prelude.{◌&&◌, IfSome}
use Rattle.std.specs.Option.{is_some}
use Rattle.icu_collator_core.specs.Defaults.{special_primary}
use Rattle.examples_icu_collator.specs.Letters.{digits_collation, digits_table}
use Rattle.icu_collator.specs.NumbersInTexts.{AreDigitsAlone, AreDigitsApart, AreDotsLight, IsNumberBetween, holds_digit, run_value}
use Rattle.examples_icu_collator.specs.Tables.{Digit, recorded_of}
use Rattle.examples_icu_collator.proofs.Computing.{computing}
use Rattle.examples_icu_collator.proofs.ExampleFoundLemmas.{by_character, longer_unrecorded}
use Rattle.examples_icu_collator.proofs.LetterPairsLemmas.{letters_low_starters, letters_unmapped, letters_full_unmapped}

-- each digit has a value up to 9, and stands up to U+0039
digit_tests : (c : ℕ) → IfSome (digits_collation.weights.digit c) (λ d. (leb d 9 && leb c 0x39) ≡ true)
digit_tests c =
    by_character {A = Digit} {B = ℕ} (λ line. line.character) (λ line. line.value) (λ x o. IfSome o (λ d. (leb d 9 && leb x 0x39) ≡ true)) digits_table.digits c
    (recursion_from_All (λ line. (leb line.value 9 && leb line.character 0x39) ≡ true) digits_table.digits
    (AllPass-from_list_all (λ line. leb line.value 9 && leb line.character 0x39) digits_table.digits refl))
    tt

pub digit_values : (c d : ℕ) → digits_collation.weights.digit c ≡ Some d → leb d 9 ≡ true
digit_values c d h =
    (and_parts _ _ (subst (λ (o : Option ℕ). IfSome o (λ d. (leb d 9 && leb c 0x39) ≡ true)) h (digit_tests c))).0

some_high : (c : ℕ) (o : Option ℕ) → IfSome o (λ d. (leb d 9 && leb c 0x39) ≡ true) → is_some o ≡ true → c ≤ 0x39
some_high c (Some d) h is = leb-true c 0x39 (and_parts _ _ h).1
some_high c None h is = cc

digit_high : (c : ℕ) → is_some (digits_collation.weights.digit c) ≡ true → c ≤ 0x39
digit_high c h = some_high c (digits_collation.weights.digit c) (digit_tests c) h

low_plain : (c : ℕ) → c ≤ 0x39 → special_primary c ≡ None
unfolding special_primary
low_plain c h = grind (arith, nat_tests)

behind_unrecorded : (before text : List ℕ) → holds_digit digits_collation.weights before ≡ true → digits_collation.weights.recorded before text ≡ None
unfolding recorded_of
behind_unrecorded [] text h = cc
behind_unrecorded (p ∷ ps) text h = refl

pub letters_digits_alone : AreDigitsAlone digits_collation
letters_digits_alone =
    record {
      lead = refl;
      values = digit_values;
      starters = λ c h. let high = digit_high c h in letters_low_starters c (omega arith);
      own = λ c h. let high = digit_high c h in letters_full_unmapped c (omega arith) (letters_unmapped c (omega arith));
      plain = λ c h. low_plain c (digit_high c h);
      alone = λ before text l h. longer_unrecorded digits_table.records before text refl l;
      prefixes = behind_unrecorded;
    }

pub letters_digits_apart : AreDigitsApart digits_collation
letters_digits_apart = record { digits = letters_digits_alone; accents = refl }

-- no dot above is dropped
pub letters_dots_light : AreDotsLight digits_collation.weights
letters_dots_light h = absurd (false≢true h)

-- after "a" and before nothing
pub two_behind_a : IsNumberBetween digits_collation (0x61 ∷ []) (0x32 ∷ []) []
unfolding computing
two_behind_a = record { number = record { digits = refl; filled = omega arith; short = omega arith }; before = refl; behind = refl }

pub ten_behind_a : IsNumberBetween digits_collation (0x61 ∷ []) (0x31 ∷ 0x30 ∷ []) []
unfolding computing
ten_behind_a = record { number = record { digits = refl; filled = omega arith; short = omega arith }; before = refl; behind = refl }

-- before a dot below and "b"
pub seven_before_dot : IsNumberBetween digits_collation [] (0x37 ∷ []) (0x323 ∷ 0x62 ∷ [])
unfolding computing
seven_before_dot = record { number = record { digits = refl; filled = omega arith; short = omega arith }; before = refl; behind = refl }

pub padded_before_dot : IsNumberBetween digits_collation [] (0x30 ∷ 0x30 ∷ 0x30 ∷ 0x37 ∷ []) (0x323 ∷ 0x62 ∷ [])
unfolding computing
padded_before_dot = record { number = record { digits = refl; filled = omega arith; short = omega arith }; before = refl; behind = refl }

-- the values of those
pub two_below_ten : run_value digits_collation.weights (0x32 ∷ []) < run_value digits_collation.weights (0x31 ∷ 0x30 ∷ [])
unfolding computing
two_below_ten = omega arith

pub padded_seven : run_value digits_collation.weights (0x30 ∷ 0x30 ∷ 0x30 ∷ 0x37 ∷ []) ≡ run_value digits_collation.weights (0x37 ∷ [])
unfolding computing
padded_seven = refl
