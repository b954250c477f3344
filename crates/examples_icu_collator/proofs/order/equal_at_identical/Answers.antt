use Rattle.std.proofs.Common.{◌≡◌, refl}
use Rattle.std.specs.declared.cmp.Ordering.TheVariants.{Equal}
use Rattle.icu_collator_types.specs.declared.options.Strength.TheVariants.{Identical}
use Rattle.examples_icu_collator.specs.Letters.{letters_collation, plain_options, dot_composed, acute_composed, cote_with_acute, cote_with_circumflex}
use Rattle.icu_collator.specs.Order.{collation_order}
use Rattle.examples_icu_collator.proofs.LettersLemmas.{letters_is_decomposing}
use Rattle.examples_icu_collator.proofs.TextExamples.{dot_composed_scalars, acute_composed_scalars, cote_with_acute_scalars, cote_with_circumflex_scalars}
use Rattle.examples_icu_collator.proofs.order.equal_at_identical.Goals as goal

pub returns-clause-spellings : goal.returns-clause-spellings
returns-clause-spellings c options is =
    (c.equal_at_identical_is_equivalence.ensures letters_collation options dot_composed acute_composed letters_is_decomposing is dot_composed_scalars acute_composed_scalars).1
    c.spellings_are_equivalent.ensures

pub returns-clause-accents : goal.returns-clause-accents
returns-clause-accents c h =
    let equal : collation_order letters_collation (plain_options Identical) cote_with_acute cote_with_circumflex ≡ Equal =
    (c.equal_at_identical_is_equivalence.ensures letters_collation (plain_options Identical) cote_with_acute cote_with_circumflex letters_is_decomposing refl cote_with_acute_scalars cote_with_circumflex_scalars).1 h
    in cc (equal, c.accents_are_in_order.ensures Identical refl)
