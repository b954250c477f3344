use Rattle.std.proofs.Common.{◌≡◌, ℕ, ◌+◌, ◌/◌, ◌%◌, ◌^◌, ◌<◌, ◌≤◌, get_or, length}
use Rattle.std.specs.Prelude.{vec_capacity}
use Rattle.collate_lists.proofs.starts.add_bases.Given as goal

abbrev pub invariant-offsets : goal.invariant-offsets
invariant-offsets l = record {
  count : length l.offsets.items ≡ length l.fn.offsets.items;
  before : (k : ℕ) → k < l.index → get_or l.offsets.items k 0 ≡ (get_or l.fn.offsets.items k 0 + get_or l.bases (k / 128) 0) % 2 ^ 64;
  behind : (k : ℕ) → l.index ≤ k → get_or l.offsets.items k 0 ≡ get_or l.fn.offsets.items k 0;
  memory : vec_capacity l.offsets ≡ vec_capacity l.fn.offsets;
}
