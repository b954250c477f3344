-- Texts over written tables, computed.
use Rattle.std.proofs.Common.{◌≡◌, true, [], ◌∷◌, refl}
use Rattle.std.specs.Prelude.{All}
use Rattle.std.specs.List.{AllByRecursion}
use Rattle.std.specs.Char.{IsScalar}
use Rattle.std.specs.declared.cmp.Ordering.TheVariants.{Less, Greater}
use Rattle.std.proofs.lemmas.List.Elements.{All-from_recursion}
use Rattle.icu_collator_types.specs.declared.options.Strength.{Strength}
use Rattle.icu_collator_types.specs.declared.options.Strength.TheVariants.{Primary, Secondary, Tertiary, Quaternary, Identical}
use Rattle.icu_collator_types.specs.Options.{is_at_least}
use Rattle.icu_normalizer_core.specs.Canonical.{composed, decomposed}
use Rattle.icu_collator.specs.Order.{collation_order}
use Rattle.examples_icu_collator.specs.Letters.{letters, letters_collation, digits_collation, plain_options, numeric_options, acute_composed, dot_composed, acute_before_dot, dot_before_acute, cote_with_acute, cote_with_circumflex}
use Rattle.examples_icu_collator.proofs.Computing.{computing}

pub acute_composed_scalars : All IsScalar acute_composed
acute_composed_scalars =
    let each : AllByRecursion IsScalar acute_composed = (refl, (refl, tt)) in All-from_recursion IsScalar acute_composed each

pub dot_composed_scalars : All IsScalar dot_composed
dot_composed_scalars =
    let each : AllByRecursion IsScalar dot_composed = (refl, (refl, tt)) in All-from_recursion IsScalar dot_composed each

pub acute_before_dot_scalars : All IsScalar acute_before_dot
acute_before_dot_scalars =
    let each : AllByRecursion IsScalar acute_before_dot = (refl, (refl, (refl, tt))) in All-from_recursion IsScalar acute_before_dot each

pub cote_with_acute_scalars : All IsScalar cote_with_acute
cote_with_acute_scalars =
    let each : AllByRecursion IsScalar cote_with_acute = (refl, (refl, (refl, (refl, (refl, tt)))))
    in All-from_recursion IsScalar cote_with_acute each

pub cote_with_circumflex_scalars : All IsScalar cote_with_circumflex
cote_with_circumflex_scalars =
    let each : AllByRecursion IsScalar cote_with_circumflex = (refl, (refl, (refl, (refl, (refl, tt)))))
    in All-from_recursion IsScalar cote_with_circumflex each

pub two_scalars : All IsScalar (0x61 ∷ 0x32 ∷ [])
two_scalars =
    let each : AllByRecursion IsScalar (0x61 ∷ 0x32 ∷ []) = (refl, (refl, tt)) in All-from_recursion IsScalar (0x61 ∷ 0x32 ∷ []) each

pub ten_scalars : All IsScalar (0x61 ∷ 0x31 ∷ 0x30 ∷ [])
ten_scalars =
    let each : AllByRecursion IsScalar (0x61 ∷ 0x31 ∷ 0x30 ∷ []) = (refl, (refl, (refl, tt)))
    in All-from_recursion IsScalar (0x61 ∷ 0x31 ∷ 0x30 ∷ []) each

pub seven_scalars : All IsScalar (0x37 ∷ 0x323 ∷ 0x62 ∷ [])
seven_scalars =
    let each : AllByRecursion IsScalar (0x37 ∷ 0x323 ∷ 0x62 ∷ []) = (refl, (refl, (refl, tt)))
    in All-from_recursion IsScalar (0x37 ∷ 0x323 ∷ 0x62 ∷ []) each

pub padded_scalars : All IsScalar (0x30 ∷ 0x30 ∷ 0x30 ∷ 0x37 ∷ 0x323 ∷ 0x62 ∷ [])
padded_scalars =
    let each : AllByRecursion IsScalar (0x30 ∷ 0x30 ∷ 0x30 ∷ 0x37 ∷ 0x323 ∷ 0x62 ∷ []) = (refl, (refl, (refl, (refl, (refl, (refl, tt))))))
    in All-from_recursion IsScalar (0x30 ∷ 0x30 ∷ 0x30 ∷ 0x37 ∷ 0x323 ∷ 0x62 ∷ []) each

-- the normal forms of both spellings
pub acute_decomposed : decomposed letters acute_composed ≡ dot_before_acute
unfolding computing
acute_decomposed = refl

pub dot_decomposed : decomposed letters dot_composed ≡ dot_before_acute
unfolding computing
dot_decomposed = refl

pub acute_recomposed : composed letters acute_composed ≡ dot_composed
unfolding computing
acute_recomposed = refl

pub dot_recomposed : composed letters dot_composed ≡ dot_composed
unfolding computing
dot_recomposed = refl

pub marks_recomposed : composed letters acute_before_dot ≡ dot_composed
unfolding computing
marks_recomposed = refl

-- letters at the lowest strength
pub a_is_below_b : collation_order letters_collation (plain_options Primary) (0x61 ∷ []) (0x62 ∷ []) ≡ Less
unfolding computing
a_is_below_b = refl

pub b_is_below_c : collation_order letters_collation (plain_options Primary) (0x62 ∷ []) (0x63 ∷ []) ≡ Less
unfolding computing
b_is_below_c = refl

-- accents at the strength that begins to look at all levels up to the third
pub acute_is_below_circumflex : collation_order letters_collation (plain_options Tertiary) cote_with_acute cote_with_circumflex ≡ Less
unfolding computing
acute_is_below_circumflex = refl

-- the same with digits among the records
pub accents_in_order : collation_order digits_collation (plain_options Tertiary) cote_with_acute cote_with_circumflex ≡ Less
unfolding computing
accents_in_order = refl

-- "a2" and "a10" by letters and by value
pub two_is_above_ten : collation_order digits_collation (plain_options Primary) (0x61 ∷ 0x32 ∷ []) (0x61 ∷ 0x31 ∷ 0x30 ∷ []) ≡ Greater
unfolding computing
two_is_above_ten = refl

pub two_is_below_ten : collation_order digits_collation (numeric_options Primary) (0x61 ∷ 0x32 ∷ []) (0x61 ∷ 0x31 ∷ 0x30 ∷ []) ≡ Less
unfolding computing
two_is_below_ten = refl

pub lowest_is_lowest : (s : Strength) → is_at_least s Primary ≡ true
lowest_is_lowest Primary = refl
lowest_is_lowest Secondary = refl
lowest_is_lowest Tertiary = refl
lowest_is_lowest Quaternary = refl
lowest_is_lowest Identical = refl
