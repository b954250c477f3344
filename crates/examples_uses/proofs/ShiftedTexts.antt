-- Spaces and punctuation that count at the quaternary level alone.
use Rattle.std.specs.Prelude.{◌≡◌, [], ◌∷◌, ◌++◌, Some, refl, codes}
use Rattle.std.specs.declared.cmp.Ordering.TheVariants.{Less, Equal}
use Rattle.icu_collator_types.specs.declared.options.Strength.TheVariants.{Tertiary, Quaternary}
use Rattle.icu_collator_types.specs.declared.options.MaxVariable.TheVariants.{Space}
use Rattle.examples_uses.specs.Files.{without}
use Rattle.examples_uses.specs.Asked.{shifted_at, order}
use Rattle.examples_uses.specs.Letters.{with_punctuation}
use Rattle.examples_uses.proofs.WorkedComputing.{computing}

-- A space counts for nothing up to the tertiary level.
pub a_space_c_is_ac : order with_punctuation (shifted_at Tertiary) (codes "a c") (codes "ac") ≡ Equal
unfolding computing
a_space_c_is_ac = refl

-- Nor do full stops.
pub stopped_is_ac : order with_punctuation (shifted_at Tertiary) (codes "a.c.") (codes "ac") ≡ Equal
unfolding computing
stopped_is_ac = refl

-- At the quaternary level a space is below a letter.
pub a_space_c_is_below_ac : order with_punctuation (shifted_at Quaternary) (codes "a c") (codes "ac") ≡ Less
unfolding computing
a_space_c_is_below_ac = refl

-- A full stop too.
pub stopped_is_below_ac : order with_punctuation (shifted_at Quaternary) (codes "a.c.") (codes "ac") ≡ Less
unfolding computing
stopped_is_below_ac = refl

-- A space is below a full stop.
pub a_space_c_is_below_stopped : order with_punctuation (shifted_at Quaternary) (codes "a c") (codes "a.c") ≡ Less
unfolding computing
a_space_c_is_below_stopped = refl

-- An accent after a space counts nowhere with it.
pub accent_behind_a_space_counts_nowhere :
    order with_punctuation (shifted_at Quaternary) (codes "a ́c") (codes "a c") ≡ Equal
unfolding computing
accent_behind_a_space_counts_nowhere = refl

-- Where spaces are the last variable group, a full stop counts as a letter does.
pub a_stop_c_is_below_ac_by_spaces :
    order with_punctuation (record (shifted_at Tertiary) { max_variable = Some Space }) (codes "a.c") (codes "ac") ≡ Less
unfolding computing
a_stop_c_is_below_ac_by_spaces = refl

-- So does a character whose primary is where the group ends, not below it.
pub end_of_a_group_is_outside :
    order
    (without (codes "set groups ") with_punctuation ++ codes "set groups 0304 030A 030A 030A" ∷ [])
    (record (shifted_at Tertiary) { max_variable = Some Space })
    (codes "a c")
    (codes "ac")
    ≡ Less
unfolding computing
end_of_a_group_is_outside = refl
