-- Characters that have other elements after certain characters.
use Rattle.std.specs.Prelude.{◌≡◌, [], ◌∷◌, refl, codes}
use Rattle.std.specs.declared.cmp.Ordering.TheVariants.{Less, Greater}
use Rattle.icu_collator_types.specs.declared.options.Strength.TheVariants.{Primary, Tertiary}
use Rattle.examples_uses.specs.Asked.{at_strength, order, list_of}
use Rattle.examples_uses.specs.Letters.{letters, with_c_behind_ab, with_e_behind_abc, with_two_prefixes}
use Rattle.examples_uses.proofs.WorkedComputing.{computing}

-- After "ab" the letter "c" is above "e".
pub abc_is_above_abe : order with_c_behind_ab (at_strength Tertiary) (codes "abc") (codes "abe") ≡ Greater
unfolding computing
abc_is_above_abe = refl

-- After "abc" the letter "e" is above "h".
pub abce_is_above_abch : order with_e_behind_abc (at_strength Tertiary) (codes "abce") (codes "abch") ≡ Greater
unfolding computing
abce_is_above_abch = refl

-- The longest prefix counts.
pub abce_is_above_abch_by_longest : order with_two_prefixes (at_strength Tertiary) (codes "abce") (codes "abch") ≡ Greater
unfolding computing
abce_is_above_abch_by_longest = refl

-- After "bc" only the short prefix is there.
pub bce_is_below_bch : order with_two_prefixes (at_strength Tertiary) (codes "bce") (codes "bch") ≡ Less
unfolding computing
bce_is_below_bch = refl

-- The prefix turns two names round.
pub names_without_prefix : list_of letters (at_strength Primary) (codes "abce" ∷ codes "abch" ∷ []) ≡ codes "abce" ∷ codes "abch" ∷ []
unfolding computing
names_without_prefix = refl

pub names_with_prefix : list_of with_e_behind_abc (at_strength Primary) (codes "abce" ∷ codes "abch" ∷ []) ≡ codes "abch" ∷ codes "abce" ∷ []
unfolding computing
names_with_prefix = refl
