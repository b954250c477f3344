-- How two texts order by each level alone, Equal where it isn't in force, and how their keys order.
use Rattle.std.specs.Ordering.{nat_cmp}
use Rattle.std.specs.Cmp.Lexicographic.{slice_cmp}
use Rattle.std.specs.declared.cmp.Ordering.{Ordering}
use Rattle.icu_collator_types.specs.declared.options.Strength.TheVariants.{Secondary, Tertiary, Quaternary, Identical}
use Rattle.icu_collator_types.specs.declared.options.ResolvedCollatorOptions.{ResolvedCollatorOptions}
use Rattle.icu_collator_types.specs.Options.{has_case_level, is_at_least}
use Rattle.icu_collator_core.specs.Collation.{Collation}
use Rattle.icu_collator.specs.KeyBytes.{key_bytes}
use Rattle.icu_collator.specs.Levels.{Levels}
use Rattle.icu_collator.specs.Order.{list_order, where_in_force, secondary_rank, quaternary_rank, character_rank}

-- by the primaries, which every strength has
abbrev pub primaries_order : Levels → Levels → Ordering
primaries_order a b = list_order (λ w. w) a.primaries b.primaries

abbrev pub secondaries_order : ResolvedCollatorOptions → Levels → Levels → Ordering
secondaries_order options a b =
    where_in_force (is_at_least options.strength Secondary) (list_order secondary_rank a.secondaries b.secondaries)

abbrev pub cases_order : ResolvedCollatorOptions → Levels → Levels → Ordering
cases_order options a b =
    where_in_force (has_case_level options.case_level) (list_order (λ w. w) a.cases b.cases)

abbrev pub tertiaries_order : ResolvedCollatorOptions → Levels → Levels → Ordering
tertiaries_order options a b =
    where_in_force (is_at_least options.strength Tertiary) (list_order (λ w. w) a.tertiaries b.tertiaries)

abbrev pub quaternaries_order : ResolvedCollatorOptions → Levels → Levels → Ordering
quaternaries_order options a b =
    where_in_force (is_at_least options.strength Quaternary) (list_order quaternary_rank a.quaternaries b.quaternaries)

abbrev pub characters_order : ResolvedCollatorOptions → Levels → Levels → Ordering
characters_order options a b =
    where_in_force (is_at_least options.strength Identical) (list_order character_rank a.characters b.characters)

-- by their keys, byte by byte
abbrev pub keys_order : Collation → ResolvedCollatorOptions → Levels → Levels → Ordering
keys_order collation options a b =
    slice_cmp nat_cmp (key_bytes collation options a) (key_bytes collation options b)
