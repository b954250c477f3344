-- The collation order of two texts: their levels are compared in turn, up to the strength.
use Rattle.std.specs.Prelude.{ℕ, ◌+◌, ◌^◌, Bool, cond, ◌==◌, List}
use Rattle.std.specs.Ordering.{nat_cmp, ordering_then}
use Rattle.std.specs.Cmp.Lexicographic.{slice_cmp}
use Rattle.std.specs.declared.cmp.Ordering.{Ordering}
use Rattle.std.specs.declared.cmp.Ordering.TheVariants.{Equal}
use Rattle.icu_collator_types.specs.declared.options.Strength.TheVariants.{Secondary, Tertiary, Quaternary, Identical}
use Rattle.icu_collator_types.specs.declared.options.ResolvedCollatorOptions.{ResolvedCollatorOptions}
use Rattle.icu_collator_types.specs.Options.{has_case_level, is_at_least}
use Rattle.icu_collator_core.specs.Collation.{Collation}
use Rattle.icu_collator.specs.Levels.{Levels, SecondaryPlace, segment_end, secondary, QuaternaryPlace, shifted, quaternary, levels_of_text}

-- the end of a segment is below all weights
abbrev pub secondary_rank : SecondaryPlace → ℕ
secondary_rank segment_end = 0
secondary_rank (secondary w) = w + 1

-- every shifted primary is below every quaternary
abbrev pub quaternary_rank : QuaternaryPlace → ℕ
quaternary_rank (shifted p) = p
quaternary_rank (quaternary q) = 2 ^ 32 + q

-- U+FFFE is below all other characters
abbrev pub character_rank : ℕ → ℕ
character_rank c = cond (c == 0xfffe) 0 (c + 1)

-- lists compared by the ranks of their items, the first difference decides, and a beginning is less
abbrev pub list_order : {A : Type 0} → (A → ℕ) → List A → List A → Ordering
list_order rank xs ys = slice_cmp (λ x y. nat_cmp (rank x) (rank y)) xs ys

-- an answer that counts where the level is in force
abbrev pub where_in_force : Bool → Ordering → Ordering
where_in_force is_in_force answer = cond is_in_force answer Equal

-- the levels compared in turn: the first that differs decides
unfoldable pub levels_order : ResolvedCollatorOptions → Levels → Levels → Ordering
levels_order options a b =
    ordering_then (list_order (λ w. w) a.primaries b.primaries)
    (ordering_then (where_in_force (is_at_least options.strength Secondary) (list_order secondary_rank a.secondaries b.secondaries))
    (ordering_then (where_in_force (has_case_level options.case_level) (list_order (λ w. w) a.cases b.cases))
    (ordering_then (where_in_force (is_at_least options.strength Tertiary) (list_order (λ w. w) a.tertiaries b.tertiaries))
    (ordering_then (where_in_force (is_at_least options.strength Quaternary) (list_order quaternary_rank a.quaternaries b.quaternaries))
    (where_in_force (is_at_least options.strength Identical) (list_order character_rank a.characters b.characters))))))

-- the collation order of two texts, given as characters
abbrev pub collation_order : Collation → ResolvedCollatorOptions → List ℕ → List ℕ → Ordering
collation_order collation options a b =
    levels_order options (levels_of_text collation options a) (levels_of_text collation options b)
