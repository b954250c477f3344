-- Numbers in the order of their keys, where a number's key is its quotient by a divisor.
use Rattle.std.specs.Prelude.{◌≡◌, ℕ, suc, ◌/◌, ◌<◌, ◌≤◌, ◌==◌, List, length, slice_index, Option, Some}
use Rattle.std.specs.BTreeMap.{BTreeMap, get}
use Rattle.std.specs.List.{find}
use Rattle.std.specs.Ordering.{nat_cmp}

-- the first number of a key
abbrev pub first_of : ℕ → List ℕ → ℕ → Option ℕ
first_of divisor numbers key = find (λ n. (n / divisor) == key) numbers

-- a map has the first number of each key
abbrev pub HasFirsts : ℕ → List ℕ → BTreeMap ℕ ℕ → Type 0
HasFirsts divisor numbers firsts = (key : ℕ) → get nat_cmp firsts key ≡ first_of divisor numbers key

-- keys rise
abbrev pub Rise : ℕ → List ℕ → Type 0
Rise divisor numbers = (i : ℕ) → suc i < length numbers → slice_index numbers i / divisor < slice_index numbers (suc i) / divisor

-- the first number of each key, and no other, in the order of the keys
pub record AreFirstsInOrder (divisor : ℕ) (numbers sorted : List ℕ) : Type 0 where
  pub rise : Rise divisor sorted
  pub firsts : (key : ℕ) → first_of divisor sorted key ≡ first_of divisor numbers key
  pub kept : (i : ℕ) → i < length sorted → first_of divisor numbers (slice_index sorted i / divisor) ≡ Some (slice_index sorted i)
  pub few : length sorted ≤ length numbers
