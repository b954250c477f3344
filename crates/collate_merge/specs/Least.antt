-- the first of those values that aren't done which is the least
use Rattle.std.specs.Prelude.{◌≡◌, ℕ, ◌<◌, ◌≤◌, Bool, true, false, Option, None, Some, List, slice_index_or}
use Rattle.std.specs.declared.cmp.Ordering.{Ordering}
use Rattle.collate_lists.specs.Names.{is_greater}

-- of the values before an end the one at an index isn't done, it is below each before it, and above none after it, but for those that are done
pub record IsLeast {X : Type 0} (is_done : X → Bool) (order : X → X → Ordering) (xs : List X) (end least : ℕ) : Type 0 where
  pub within : least < end
  pub here : (d : X) → is_done (slice_index_or xs least d) ≡ false
  pub before : (k : ℕ) (d : X) → k < least → is_done (slice_index_or xs k d) ≡ false → is_greater (order (slice_index_or xs k d) (slice_index_or xs least d)) ≡ true
  pub behind : (k : ℕ) (d : X) → least ≤ k → k < end → is_done (slice_index_or xs k d) ≡ false → is_greater (order (slice_index_or xs least d) (slice_index_or xs k d)) ≡ false

-- the same, or all before the end are done
abbrev pub FindsLeast : {X : Type 0} → (X → Bool) → (X → X → Ordering) → List X → ℕ → Option ℕ → Type 0
FindsLeast {X} is_done order xs end None = (k : ℕ) (d : X) → k < end → is_done (slice_index_or xs k d) ≡ true
FindsLeast is_done order xs end (Some least) = IsLeast is_done order xs end least
