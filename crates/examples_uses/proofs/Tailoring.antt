-- Lines of the tailoring, which replace those of the root that have the same prefix and text.
use Rattle.std.specs.Prelude.{◌≡◌, [], ◌∷◌, ◌++◌, refl, codes}
use Rattle.std.specs.declared.cmp.Ordering.TheVariants.{Less, Equal, Greater}
use Rattle.icu_collator_types.specs.declared.options.Strength.TheVariants.{Primary, Tertiary}
use Rattle.icu_collator_core.specs.Defaults.{primary_element}
use Rattle.examples_uses.specs.Files.{Lines}
use Rattle.examples_uses.specs.Asked.{at_strength, order, elements}
use Rattle.examples_uses.specs.Letters.{letters, with_c_behind_ab}
use Rattle.examples_uses.proofs.WorkedComputing.{computing}

-- "a" moved between "e" and "h"
abbrev with_a_moved : Lines
with_a_moved = letters ++ codes "t 0061 ; [2A600000.0500.0.0500.0]" ∷ []

pub elements_of_a_moved : elements with_a_moved (at_strength Primary) (codes "a") ≡ primary_element 0x2a600000 ∷ []
unfolding computing
elements_of_a_moved = refl

-- It stands there whichever line comes first.
pub elements_of_a_moved_ahead :
    elements (codes "t 0061 ; [2A600000.0500.0.0500.0]" ∷ letters) (at_strength Primary) (codes "a")
    ≡ primary_element 0x2a600000 ∷ []
unfolding computing
elements_of_a_moved_ahead = refl

-- So "a" is above "e", with an accent too, and the other letters stay.
pub a_moved_is_above_e : order with_a_moved (at_strength Tertiary) (codes "á") (codes "e") ≡ Greater
unfolding computing
a_moved_is_above_e = refl

pub others_stay : order with_a_moved (at_strength Tertiary) (codes "b") (codes "c") ≡ Less
unfolding computing
others_stay = refl

-- A record after a prefix is replaced by one after the same prefix: "c" after "ab" is below "e" again,
pub replaced_behind_a_prefix :
    order (with_c_behind_ab ++ codes "t 0061 0062 | 0063 ; [2A180000.0500.0.0500.0]" ∷ [])
    (at_strength Tertiary)
    (codes "abc")
    (codes "abe")
    ≡ Less
unfolding computing
replaced_behind_a_prefix = refl

-- and not by one without prefix, which counts elsewhere.
pub kept_behind_a_prefix :
    order (with_c_behind_ab ++ codes "t 0063 ; [2A180000.0500.0.0500.0]" ∷ []) (at_strength Tertiary) (codes "abc") (codes "abe")
    ≡ Greater
unfolding computing
kept_behind_a_prefix = refl

pub replaced_elsewhere :
    order (with_c_behind_ab ++ codes "t 0063 ; [2A180000.0500.0.0500.0]" ∷ []) (at_strength Tertiary) (codes "ac") (codes "ab")
    ≡ Less
unfolding computing
replaced_elsewhere = refl

-- A line for a text that the root doesn't have is added.
pub added_by_the_tailoring :
    order (letters ++ codes "t 0063 0068 ; [2A400000.0500.0.0500.0]" ∷ []) (at_strength Primary) (codes "ch") (codes "cl") ≡ Greater
unfolding computing
added_by_the_tailoring = refl

-- One without elements makes a character count for nothing.
pub ignored_by_the_tailoring :
    order (letters ++ codes "t 0302 ;" ∷ []) (at_strength Tertiary) (codes "côte") (codes "cote") ≡ Equal
unfolding computing
ignored_by_the_tailoring = refl
