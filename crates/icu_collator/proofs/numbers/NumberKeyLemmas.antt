-- Keys of texts that differ in a number alone order as the values do.
use Rattle.std.proofs.Common.{◌≡◌, ℕ, ◌<◌, true, false, List, ◌++◌, All, ◌∙◌}
use Rattle.std.specs.Char.{IsScalar}
use Rattle.std.specs.Cmp.Lexicographic.{slice_cmp}
use Rattle.std.specs.Ordering.{nat_cmp}
use Rattle.std.specs.declared.cmp.Ordering.TheVariants.{Less}
use Rattle.icu_normalizer_core.specs.Canonical.{IsDecomposing}
use Rattle.icu_collator_types.specs.declared.options.ResolvedCollatorOptions.{ResolvedCollatorOptions}
use Rattle.icu_collator_types.specs.declared.options.Strength.TheVariants.{Identical}
use Rattle.icu_collator_types.specs.Options.{is_at_least, is_numeric}
use Rattle.icu_collator_core.specs.Collation.{Collation}
use Rattle.icu_collator.specs.KeyBytes.{key_of_text}
use Rattle.icu_collator.specs.NumbersInTexts.{AreDigitsAlone, AreDigitsApart, AreDotsLight, IsNumberBetween, no_number_is_variable, run_value}
use Rattle.icu_collator.specs.Settings.{has_plain_leads}
use Rattle.icu_collator.specs.SoundCollation.{IsSoundCollation}
use Rattle.icu_collator.proofs.numbers.NumbersInTextsLemmas.{equal_runs, lower_first}
use Rattle.icu_collator.proofs.keys.TextKeyLemmas.{equal_text_keys, text_keys_order}

pub lower_key_first : (collation : Collation) (options : ResolvedCollatorOptions) (x r s y : List ℕ)
    → IsDecomposing collation.canonical → IsSoundCollation collation → has_plain_leads collation options ≡ true
    → AreDigitsAlone collation → AreDotsLight collation.weights → is_numeric options.numeric ≡ true → no_number_is_variable collation options ≡ true
    → IsNumberBetween collation x r y → IsNumberBetween collation x s y → All IsScalar (x ++ (r ++ y)) → All IsScalar (x ++ (s ++ y))
    → run_value collation.weights r < run_value collation.weights s
    → slice_cmp nat_cmp (key_of_text collation options (x ++ (r ++ y))) (key_of_text collation options (x ++ (s ++ y))) ≡ Less
lower_key_first collation options x r s y d sound plain apart dots numeric count hr hs first second below =
    text_keys_order collation options (x ++ (r ++ y)) (x ++ (s ++ y)) d sound plain first second
    ∙ lower_first collation options x r s y d apart dots (λ p _. sound.settings.rest p) numeric count hr hs below

pub equal_value_keys : (collation : Collation) (options : ResolvedCollatorOptions) (x r s y : List ℕ)
    → IsDecomposing collation.canonical → IsSoundCollation collation → has_plain_leads collation options ≡ true
    → AreDigitsApart collation → is_numeric options.numeric ≡ true → is_at_least options.strength Identical ≡ false
    → IsNumberBetween collation x r y → IsNumberBetween collation x s y → All IsScalar (x ++ (r ++ y)) → All IsScalar (x ++ (s ++ y))
    → run_value collation.weights r ≡ run_value collation.weights s
    → key_of_text collation options (x ++ (r ++ y)) ≡ key_of_text collation options (x ++ (s ++ y))
equal_value_keys collation options x r s y d sound plain apart numeric below hr hs first second same =
    (equal_text_keys collation options (x ++ (r ++ y)) (x ++ (s ++ y)) d sound plain first second).1
    (equal_runs collation options x r s y d apart numeric below hr hs same)
