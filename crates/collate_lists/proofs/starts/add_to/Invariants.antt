use Rattle.std.proofs.Common.{◌≡◌, ℕ, ◌+◌, ◌%◌, ◌^◌, ◌<◌, ◌≤◌, get_or, length}
use Rattle.std.specs.Prelude.{vec_capacity}
use Rattle.collate_lists.proofs.starts.add_to.Given as goal

abbrev pub invariant-values : goal.invariant-values
invariant-values l = record {
  count : length l.values.items ≡ length l.fn.values.items;
  before : (k : ℕ) → k < l.from → get_or l.values.items k 0 ≡ get_or l.fn.values.items k 0;
  added : (k : ℕ) → l.from ≤ k → k < l.index → get_or l.values.items k 0 ≡ (get_or l.fn.values.items k 0 + l.amount) % 2 ^ 64;
  behind : (k : ℕ) → l.index ≤ k → get_or l.values.items k 0 ≡ get_or l.fn.values.items k 0;
  memory : vec_capacity l.values ≡ vec_capacity l.fn.values;
}
