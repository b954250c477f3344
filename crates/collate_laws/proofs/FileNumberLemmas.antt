-- Texts that differ in a number alone order by a collator of a file as the values of the numbers do, and so do their keys.
use Rattle.std.proofs.Common.{◌≡◌, ℕ, ◌<◌, true, false, List, [], ◌∷◌, ◌++◌, All, ◌∙◌}
use Rattle.std.specs.Char.{IsScalar}
use Rattle.std.specs.Cmp.Lexicographic.{slice_cmp}
use Rattle.std.specs.List.{list_all}
use Rattle.std.specs.Ordering.{nat_cmp}
use Rattle.std.specs.declared.cmp.Ordering.TheVariants.{Less, Equal, Greater}
use Rattle.std.proofs.lemmas.Bool.{and_parts}
use Rattle.std.proofs.lemmas.List.Elements.{All-append, All-cons, All-nil}
use Rattle.icu_collator_types.specs.declared.options.CollatorOptions.{CollatorOptions}
use Rattle.icu_collator_types.specs.declared.options.CollatorPreferences.{CollatorPreferences}
use Rattle.icu_collator_types.specs.declared.options.Strength.TheVariants.{Identical}
use Rattle.icu_collator_types.specs.Options.{is_at_least, is_numeric}
use Rattle.icu_collator.specs.Collators.{CollatorParts}
use Rattle.icu_collator.specs.NumbersInTexts.{IsNumberBetween, is_digit, no_number_is_variable, run_value}
use Rattle.icu_collator.specs.Settings.{has_plain_leads}
use Rattle.icu_collator.proofs.numbers.NumbersInTextsLemmas.{equal_runs, higher_behind, lower_first}
use Rattle.collate_lines.specs.Record.{Record}
use Rattle.collate_records.proofs.reading.ReadingAcceptedLemmas.{accepted_decompose}
use Rattle.collate_rules.specs.Accepted.{AreAccepted}
use Rattle.collate_rules.specs.Meaning.{collation_of, weights_of}
use Rattle.collate_laws.specs.Alike.{key_of, order_of}
use Rattle.collate_laws.specs.OverRecords.{IsCollatorOf}
use Rattle.collate_laws.proofs.LawAnswerLemmas.{order_here}
use Rattle.collate_laws.proofs.LawKeyLemmas.{keys_equal, keys_order}
use Rattle.collate_laws.specs.NumbersApart.{HaveNumbersApart, JoinNoDigits}
use Rattle.collate_laws.proofs.NumberLawApartLemmas.{digit_scalar, digits_alone, digits_apart, numbers_together}
use Rattle.collate_laws.proofs.DotAboveLemmas.{dots_light}

module _ (records : List Record) (options : CollatorOptions) (preferences : CollatorPreferences) (collator : CollatorParts)
    (accepted : AreAccepted records) (is : IsCollatorOf records options preferences collator)
    (numeric : is_numeric collator.options.numeric ≡ true) where
  run_scalars : (run : List ℕ) → list_all (is_digit (weights_of records)) run ≡ true → All IsScalar run
  run_scalars [] h = All-nil IsScalar
  run_scalars (c ∷ cs) h =
      let both = and_parts (is_digit (weights_of records) c) (list_all (is_digit (weights_of records)) cs) h
      in All-cons IsScalar c cs (digit_scalar records accepted c both.0) (run_scalars cs both.1)

  module _ (x r s y : List ℕ) (before : All IsScalar x) (behind : All IsScalar y)
      (first : IsNumberBetween (collation_of records) x r y) (second : IsNumberBetween (collation_of records) x s y) where
    text_scalars : (run : List ℕ) → IsNumberBetween (collation_of records) x run y → All IsScalar (x ++ (run ++ y))
    text_scalars run number =
        All-append IsScalar x (run ++ y) before (All-append IsScalar run y (run_scalars run number.number.digits) behind)

    pub lower : JoinNoDigits records → no_number_is_variable (collation_of records) collator.options ≡ true
        → run_value (weights_of records) r < run_value (weights_of records) s → order_of collator (x ++ (r ++ y)) (x ++ (s ++ y)) ≡ Less
    lower alone none below =
        order_here records options preferences collator accepted is (x ++ (r ++ y)) (x ++ (s ++ y)) (text_scalars r first) (text_scalars s second)
        ∙ lower_first (collation_of records) collator.options x r s y (accepted_decompose records accepted) (digits_alone records accepted alone)
        (dots_light records accepted) (numbers_together records accepted) numeric none first second below

    pub higher : JoinNoDigits records → no_number_is_variable (collation_of records) collator.options ≡ true
        → run_value (weights_of records) s < run_value (weights_of records) r → order_of collator (x ++ (r ++ y)) (x ++ (s ++ y)) ≡ Greater
    higher alone none below =
        order_here records options preferences collator accepted is (x ++ (r ++ y)) (x ++ (s ++ y)) (text_scalars r first) (text_scalars s second)
        ∙ higher_behind (collation_of records) collator.options x r s y (accepted_decompose records accepted) (digits_alone records accepted alone)
        (dots_light records accepted) (numbers_together records accepted) numeric none first second below

    pub equal : HaveNumbersApart records → is_at_least collator.options.strength Identical ≡ false
        → run_value (weights_of records) r ≡ run_value (weights_of records) s → order_of collator (x ++ (r ++ y)) (x ++ (s ++ y)) ≡ Equal
    equal apart below same =
        order_here records options preferences collator accepted is (x ++ (r ++ y)) (x ++ (s ++ y)) (text_scalars r first) (text_scalars s second)
        ∙ equal_runs (collation_of records) collator.options x r s y (accepted_decompose records accepted) (digits_apart records accepted apart)
        numeric below first second same

    module _ (plain : has_plain_leads (collation_of records) collator.options ≡ true) where
      pub lower_key : JoinNoDigits records → no_number_is_variable (collation_of records) collator.options ≡ true
          → run_value (weights_of records) r < run_value (weights_of records) s
          → slice_cmp nat_cmp (key_of collator (x ++ (r ++ y))) (key_of collator (x ++ (s ++ y))) ≡ Less
      lower_key alone none below =
          keys_order records options preferences collator accepted is plain (x ++ (r ++ y)) (x ++ (s ++ y)) (text_scalars r first) (text_scalars s second)
          ∙ lower alone none below

      pub equal_key : HaveNumbersApart records → is_at_least collator.options.strength Identical ≡ false
          → run_value (weights_of records) r ≡ run_value (weights_of records) s → key_of collator (x ++ (r ++ y)) ≡ key_of collator (x ++ (s ++ y))
      equal_key apart below same =
          (keys_equal records options preferences collator accepted is plain (x ++ (r ++ y)) (x ++ (s ++ y)) (text_scalars r first) (text_scalars s second)).1
          (equal apart below same)
