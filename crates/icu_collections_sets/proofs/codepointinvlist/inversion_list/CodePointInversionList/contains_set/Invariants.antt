use Rattle.std.proofs.Common.{◌≡◌, ℕ, true, false}
use Rattle.icu_collections_sets.specs.CodePoints.{holds, in_ranges}
use Rattle.icu_collections_sets.proofs.codepointinvlist.inversion_list.CodePointInversionList.contains_set.Given as goal

abbrev pub invariant-loop-range : goal.invariant-loop-range
invariant-loop-range l =
    ((c : ℕ) → in_ranges l.range-iterator c ≡ true → holds l.other c ≡ true)
    × ((c : ℕ) → holds l.other c ≡ true → holds l.self c ≡ false → in_ranges l.range-iterator c ≡ true)
