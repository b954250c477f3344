-- Accents compared from the end of a text.
use Rattle.std.specs.Prelude.{◌≡◌, [], ◌∷◌, ◌++◌, refl, codes}
use Rattle.std.specs.declared.cmp.Ordering.TheVariants.{Less, Greater}
use Rattle.icu_collator_types.specs.declared.options.Strength.TheVariants.{Secondary, Tertiary}
use Rattle.examples_uses.specs.Files.{Lines}
use Rattle.examples_uses.specs.Asked.{at_strength, order}
use Rattle.examples_uses.specs.Letters.{letters}
use Rattle.examples_uses.proofs.WorkedComputing.{computing}

abbrev backward_letters : Lines
backward_letters = letters ++ codes "set backward on" ∷ []

-- Read forward, the first accent decides: there is none on the "o" of the first word.
pub cote_is_below_cote : order letters (at_strength Tertiary) (codes "coté") (codes "côte") ≡ Less
unfolding computing
cote_is_below_cote = refl

-- Read backward, the last accent decides: there is none on the "e" of the second word.
pub cote_is_above_cote_backward :
    order backward_letters (at_strength Tertiary) (codes "coté") (codes "côte") ≡ Greater
unfolding computing
cote_is_above_cote_backward = refl

-- Each segment before U+FFFE is read backward by itself, and the first segment decides first: it has no accent in the
-- first text, whose last letter has one.
pub first_segment_decides_backward :
    order backward_letters (at_strength Secondary) (codes "ba\u{fffe}bá") (codes "b́a\u{fffe}ba") ≡ Less
unfolding computing
first_segment_decides_backward = refl

-- Within a segment the last accent decides.
pub last_accent_of_a_segment_decides_backward :
    order backward_letters (at_strength Secondary) (codes "áb\u{fffe}ab̂") (codes "ab́\u{fffe}âb") ≡ Less
unfolding computing
last_accent_of_a_segment_decides_backward = refl

pub first_accent_of_a_segment_decides_forward :
    order letters (at_strength Secondary) (codes "áb\u{fffe}ab̂") (codes "ab́\u{fffe}âb") ≡ Greater
unfolding computing
first_accent_of_a_segment_decides_forward = refl
