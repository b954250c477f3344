-- Texts that are canonically equivalent, and texts that only their characters set apart.
use Rattle.std.specs.Prelude.{◌≡◌, [], ◌∷◌, ◌++◌, refl, codes}
use Rattle.std.specs.declared.cmp.Ordering.TheVariants.{Less, Equal}
use Rattle.icu_collator_types.specs.declared.options.Strength.TheVariants.{Identical}
use Rattle.examples_uses.specs.Files.{Lines, without}
use Rattle.examples_uses.specs.Asked.{at_strength, order}
use Rattle.examples_uses.specs.Letters.{letters}
use Rattle.examples_uses.proofs.WorkedComputing.{computing}

-- An accent of its own is as good as one composed with its letter.
pub a_acute_is_composed : order letters (at_strength Identical) (codes "á") (codes "á") ≡ Equal
unfolding computing
a_acute_is_composed = refl

-- Nor does it count which of two marks of different class is composed with the letter.
pub marks_are_equivalent : order letters (at_strength Identical) (codes "ạ́") (codes "ạ́") ≡ Equal
unfolding computing
marks_are_equivalent = refl

-- three marks without elements, of which U+0350 has the class of the acute
abbrev with_ignored_marks : Lines
with_ignored_marks =
    without (codes "w 0301 ") (without (codes "w 0323 ") letters)
    ++ codes "class 0350 230" ∷ codes "w 0301 ;" ∷ codes "w 0323 ;" ∷ codes "w 0350 ;" ∷ []

-- The whole decomposed texts are compared, where the dot below stands first.
pub ignored_marks_count_as_characters :
    order with_ignored_marks (at_strength Identical) (codes "ạ͐") (codes "a͐́") ≡ Less
unfolding computing
ignored_marks_count_as_characters = refl
