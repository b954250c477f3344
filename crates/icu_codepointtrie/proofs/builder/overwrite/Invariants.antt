use Rattle.std.proofs.Common.{◌≡◌, ℕ, ◌<◌, ◌&&◌, nat_le, nat_lt, length, slice_index_or, if◌then◌else◌}
use Rattle.icu_codepointtrie.proofs.builder.overwrite.Given as goal

abbrev pub invariant-loop-slot : goal.invariant-loop-slot
invariant-loop-slot g l =
    (length l.values ≡ length l.fn.values)
    × ((c : ℕ) (default : g.row.T.Denot) → c < length l.fn.values → slice_index_or l.values c default ≡ (if nat_le l.first c && nat_lt c l.slot then l.value else slice_index_or l.fn.values c default))
