use Rattle.std.proofs.Common.{◌≡◌, refl}
use Rattle.std.specs.declared.cmp.Ordering.TheVariants.{Equal}
use Rattle.icu_collator_types.specs.declared.options.Strength.TheVariants.{Tertiary}
use Rattle.examples_icu_collator.specs.Letters.{digits_collation, plain_options, dot_composed, acute_composed, cote_with_acute, cote_with_circumflex}
use Rattle.icu_collator.specs.Order.{collation_order}
use Rattle.examples_icu_collator.proofs.LettersLemmas.{letters_is_decomposing}
use Rattle.examples_icu_collator.proofs.KeyExamples.{digits_sound}
use Rattle.examples_icu_collator.proofs.TextExamples.{accents_in_order, dot_composed_scalars, acute_composed_scalars, cote_with_acute_scalars, cote_with_circumflex_scalars}
use Rattle.examples_icu_collator.proofs.keys.keys_are_equal.Goals as goal

pub returns-clause-spellings : goal.returns-clause-spellings
returns-clause-spellings c strength =
    (c.equal_keys_are_of_equal_texts.ensures digits_collation (plain_options strength) dot_composed acute_composed
    letters_is_decomposing digits_sound refl dot_composed_scalars acute_composed_scalars).1
    (c.equivalent_texts_are_equal.ensures digits_collation (plain_options strength) dot_composed acute_composed letters_is_decomposing dot_composed_scalars acute_composed_scalars
    c.spellings_are_equivalent.ensures)

pub returns-clause-accents : goal.returns-clause-accents
returns-clause-accents c h =
    let equal : collation_order digits_collation (plain_options Tertiary) cote_with_acute cote_with_circumflex ≡ Equal =
    (c.equal_keys_are_of_equal_texts.ensures digits_collation (plain_options Tertiary) cote_with_acute cote_with_circumflex
    letters_is_decomposing digits_sound refl cote_with_acute_scalars cote_with_circumflex_scalars).0 h
    in cc (equal, accents_in_order)
