-- Case: as a level of its own, ahead of tertiary differences, and where it does not count.
use Rattle.std.specs.Prelude.{◌≡◌, [], ◌∷◌, ◌++◌, replicate, Some, refl, codes}
use Rattle.std.specs.declared.cmp.Ordering.TheVariants.{Less, Equal, Greater}
use Rattle.icu_collator_types.specs.declared.options.Strength.TheVariants.{Primary, Secondary, Tertiary}
use Rattle.icu_collator_types.specs.declared.options.CaseLevel.TheVariants.{On}
use Rattle.icu_collator_types.specs.declared.options.CollationCaseFirst.TheVariants.{Lower, Upper}
use Rattle.examples_uses.specs.Files.{Lines, without}
use Rattle.examples_uses.specs.Asked.{Asked, at_strength, accents_then_upper_first, order}
use Rattle.examples_uses.specs.Letters.{letters, with_upper_a}
use Rattle.examples_uses.proofs.WorkedComputing.{computing}

-- Upper case is below lower case, in the fourteenth place too.
pub upper_in_fourteenth_place_is_first :
    order with_upper_a accents_then_upper_first (replicate 13 0x61 ++ codes "A") (replicate 14 0x61) ≡ Less
unfolding computing
upper_in_fourteenth_place_is_first = refl

-- "t" as a mark of upper case without a letter or an accent
abbrev with_case_t : Lines
with_case_t = without (codes "w 0074 ") letters ++ codes "w 0074 ; [0.0000.2.0900.0]" ∷ []

-- An element without a secondary has no place at the level of case, and its tertiary is above that of "a".
pub a_is_below_ta :
    order with_case_t (record (at_strength Tertiary) { case_level = Some On; case_first = Some Upper }) (codes "a") (codes "ta") ≡ Less
unfolding computing
a_is_below_ta = refl

-- the same, and "B" as a "b" with the tertiary of upper case but no case
abbrev with_case_t_and_b : Lines
with_case_t_and_b = with_case_t ++ codes "w 0042 ; [2A200000.0500.0.0900.0]" ∷ []

-- upper case first, ahead of other tertiary differences
abbrev upper_first : Asked
upper_first = record (at_strength Tertiary) { case_first = Some Upper }

-- With upper case first an element without a secondary is above all others at the tertiary level.
pub atb_is_above_ab : order with_case_t_and_b upper_first (codes "atb") (codes "aB") ≡ Greater
unfolding computing
atb_is_above_ab = refl

-- Compared the other way round the answer is turned round.
pub ab_is_below_atb : order with_case_t_and_b upper_first (codes "aB") (codes "atb") ≡ Less
unfolding computing
ab_is_below_atb = refl

-- "A", an "s", and a grave that composes with "a" and "o"
abbrev with_graves : Lines
with_graves =
    with_upper_a ++ codes "w 0300 ; [0.8600.0.0500.0]" ∷ codes "w 0073 ; [2B100000.0500.0.0500.0]"
    ∷ codes "map 00E0 0061 0300" ∷ codes "map 00F2 006F 0300" ∷ []

-- An accent counts at Secondary.
pub as_is_below_as_grave : order with_graves (at_strength Secondary) (codes "as") (codes "às") ≡ Less
unfolding computing
as_is_below_as_grave = refl

-- Case doesn't.
pub ao_is_ao_in_upper_case : order with_graves (at_strength Secondary) (codes "ao") (codes "Ao") ≡ Equal
unfolding computing
ao_is_ao_in_upper_case = refl

-- So upper case doesn't stand in the way of an accent after it.
pub upper_ao_is_below_ao_grave : order with_graves (at_strength Secondary) (codes "Ao") (codes "aò") ≡ Less
unfolding computing
upper_ao_is_below_ao_grave = refl

-- Upper case comes first only where that is asked.
pub a_is_below_upper_a_by_lower_first :
    order with_upper_a (record (at_strength Tertiary) { case_first = Some Lower }) (codes "a") (codes "A") ≡ Less
unfolding computing
a_is_below_upper_a_by_lower_first = refl

pub a_is_above_upper_a_by_upper_first : order with_upper_a upper_first (codes "a") (codes "A") ≡ Greater
unfolding computing
a_is_above_upper_a_by_upper_first = refl

-- At Primary the case level alone sets them apart.
pub a_is_below_upper_a_by_case_level :
    order with_upper_a (record (at_strength Primary) { case_level = Some On }) (codes "a") (codes "A") ≡ Less
unfolding computing
a_is_below_upper_a_by_case_level = refl

pub a_is_upper_a_at_primary : order with_upper_a (at_strength Primary) (codes "a") (codes "A") ≡ Equal
unfolding computing
a_is_upper_a_at_primary = refl
