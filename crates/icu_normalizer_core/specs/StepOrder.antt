-- Characters in the order in which mapping steps lead to them.
use Rattle.std.specs.Prelude.{◌≡◌, ℕ, ◌<◌, ◌≤◌, List, length, Contains, slice_index, nat_eq}
use Rattle.std.specs.List.{IsDistinct}
use Rattle.icu_normalizer_core.specs.Canonical.{Reaches}
use Rattle.icu_normalizer_core.specs.declared.step_order.Walk.{Walk}
use Rattle.icu_normalizer_core.specs.declared.step_order.Walk.TheVariants.{Loop, InOrder}

-- a character stands in a list before an index
abbrev pub StandsBefore : List ℕ → ℕ → ℕ → Type 0
StandsBefore list index c = (j : ℕ) × (j < index) × (slice_index list j ≡ c)

-- characters, each once, and each after all that its step gives
pub record AreInOrder (step : ℕ → List ℕ) (list : List ℕ) : Type 0 where
  pub distinct : IsDistinct nat_eq list
  pub behind : (k : ℕ) → k < length list → (d : ℕ) → Contains (step (slice_index list k)) d → StandsBefore list k d

-- a loop of steps, or else all that they lead to from some characters, in order
abbrev pub IsWalk : (ℕ → List ℕ) → List ℕ → Walk → Type 0
IsWalk step starts (Loop c) = Reaches step (step c) c
IsWalk step starts (InOrder list) = AreInOrder step list.items × ((c : ℕ) → Contains starts c → Contains list.items c)

-- at most as many characters as there are code points
abbrev pub FitsCodePoints : Walk → Type 0
FitsCodePoints (Loop c) = Unit {0}
FitsCodePoints (InOrder list) = length list.items ≤ 0x110000
