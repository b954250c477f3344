-- Texts of several characters that have elements together, with marks that join them.
use Rattle.std.specs.Prelude.{◌≡◌, [], ◌∷◌, ◌++◌, refl, codes}
use Rattle.std.specs.declared.cmp.Ordering.TheVariants.{Less, Equal, Greater}
use Rattle.icu_collator_types.specs.declared.options.Strength.TheVariants.{Primary, Tertiary}
use Rattle.examples_uses.specs.Files.{Lines}
use Rattle.examples_uses.specs.Asked.{at_strength, order}
use Rattle.examples_uses.specs.Letters.{letters}
use Rattle.examples_uses.proofs.WorkedComputing.{computing}

-- "abc" after all single letters
abbrev with_abc : Lines
with_abc = letters ++ codes "w 0061 0062 0063 ; [2B800000.0500.0.0500.0]" ∷ []

-- The three letters together lie above "a", so "abc" is above "abe" although "c" is below "e".
pub abc_is_above_abe : order with_abc (at_strength Tertiary) (codes "abc") (codes "abe") ≡ Greater
unfolding computing
abc_is_above_abe = refl

-- "c" with an acute, and "cha", each as one letter
abbrev with_c_acute_and_cha : Lines
with_c_acute_and_cha =
    letters ++ codes "w 0063 0301 ; [2A700000.0500.0.0500.0]" ∷ codes "w 0063 0068 0061 ; [2B900000.0500.0.0500.0]" ∷ []

-- An acute after "h" doesn't join the "c" in front of the "h", though a longer text was looked for there.
pub ch_with_marks_is_ch : order with_c_acute_and_cha (at_strength Primary) (codes "cḥ́") (codes "ch") ≡ Equal
unfolding computing
ch_with_marks_is_ch = refl

-- "a" with an acute as a letter of its own
abbrev with_a_acute : Lines
with_a_acute = letters ++ codes "w 0061 0301 ; [2A180000.0500.0.0500.0]" ∷ []

-- The acute joins "a" past a dot below, whose class is lower.
pub acute_joins_past_dot_below : order with_a_acute (at_strength Primary) (codes "ạ") (codes "ạ́") ≡ Less
unfolding computing
acute_joins_past_dot_below = refl

-- It doesn't join "a" past a circumflex, whose class is the same.
pub acute_stays_behind_circumflex : order with_a_acute (at_strength Primary) (codes "ấ") (codes "a") ≡ Equal
unfolding computing
acute_stays_behind_circumflex = refl
