-- Units that keep the grammar of unit tries, by cases on the units.
use Rattle.std.specs.Prelude.{◌≡◌, ◌≢◌, ℕ, ℤ, ◌+◌, ◌-◌, ◌/◌, ◌<◌, ◌≤◌, ◌↔◌, List, [], length, map, slice_get, Option, Some, None}
use Rattle.std.specs.Cmp.Lexicographic.{slice_cmp}
use Rattle.std.specs.List.{Contains}
use Rattle.std.specs.List.Sorted.{IsStrictlySortedBy}
use Rattle.std.specs.Ordering.{nat_cmp}
use Rattle.icu_char16trie.specs.UnitNumbers.{delta, landing}
use Rattle.icu_char16trie.specs.UnitSteps.{entry_at, entry_target, start}
use Rattle.icu_char16trie.specs.UnitMaps.{IsNode, MapsKey, IsWhole, Spot, at_node, at_state}
use Rattle.icu_char16trie.specs.declared.cells.Number.{Number}
use Rattle.icu_char16trie.specs.declared.node.Branch.{Branch}
use Rattle.icu_char16trie.specs.declared.node.Entry.{Entry}
use Rattle.icu_char16trie.specs.declared.node.Match.{Match}
use Rattle.icu_char16trie.specs.declared.node.Target.TheVariants.{Value, Node}
use Rattle.icu_char16trie.specs.declared.node.State.{State}
use Rattle.icu_char16trie.specs.declared.node.State.TheVariants as state

-- what a rule of the grammar is about: a spot, or a branch whose units go from a low bound to below a high one
pub data GrammarPart : Type 0 where
  spot : Spot → GrammarPart
  within : Branch → ℕ → ℕ → GrammarPart

-- the units keep the grammar there: all that can be reached is read to its end and within the units, and
-- the units of a branch rise, those of its first half below the unit at which it is halved
pub data IsSound (units : List ℕ) : GrammarPart → Type 0 where
  sound_end : (index value : ℕ) → IsNode units index (Some value) None → IsSound units (spot (at_node index))
  sound_node : (index : ℕ) (value : Option ℕ) (next : State) → IsNode units index value (Some next) → IsSound units (spot (at_state next))
      → IsSound units (spot (at_node index))
  sound_run : (run : Match) (unit : ℕ) → slice_get units run.index ≡ Some unit → 1 < run.left
      → IsSound units (spot (at_state (state.Match (record { left = run.left - 1; index = run.index + 1 }))))
      → IsSound units (spot (at_state (state.Match run)))
  sound_run_end : (run : Match) (unit : ℕ) → slice_get units run.index ≡ Some unit → run.left ≤ 1
      → IsSound units (spot (at_node (run.index + 1))) → IsSound units (spot (at_state (state.Match run)))
  sound_branch : (branch : Branch) → IsSound units (within branch 0 0x10000) → IsSound units (spot (at_state (state.Branch branch)))
  sound_last : (branch : Branch) (low high unit : ℕ) → branch.count ≤ 1 → slice_get units branch.index ≡ Some unit
      → low ≤ unit → unit < high → IsSound units (spot (at_node (branch.index + 1))) → IsSound units (within branch low high)
  sound_value : (branch : Branch) (low high value : ℕ) (entry : Entry) → 1 < branch.count → branch.count ≤ 5
      → entry_at units branch.index ≡ Some entry → entry_target units entry ≡ Some (Value value) → low ≤ entry.unit → entry.unit < high
      → IsSound units (within (record { count = branch.count - 1; index = entry.number.end }) (entry.unit + 1) high)
      → IsSound units (within branch low high)
  sound_jump : (branch : Branch) (low high index : ℕ) (entry : Entry) → 1 < branch.count → branch.count ≤ 5
      → entry_at units branch.index ≡ Some entry → entry_target units entry ≡ Some (Node index) → low ≤ entry.unit → entry.unit < high
      → IsSound units (spot (at_node index))
      → IsSound units (within (record { count = branch.count - 1; index = entry.number.end }) (entry.unit + 1) high)
      → IsSound units (within branch low high)
  sound_halves : (branch : Branch) (low high middle index : ℕ) (jump : Number) → 5 < branch.count
      → slice_get units branch.index ≡ Some middle → delta units (branch.index + 1) ≡ Some jump → landing units jump ≡ Some index
      → low < middle → middle < high
      → IsSound units (within (record { count = branch.count / 2; index = index }) low middle)
      → IsSound units (within (record { count = branch.count - branch.count / 2; index = jump.end }) middle high)
      → IsSound units (within branch low high)

-- units that keep the grammar: none, or those whose first node has no value
pub data IsUnitTrie (units : List ℕ) : Type 0 where
  no_units : units ≡ [] → IsUnitTrie units
  rooted : (next : State) → IsNode units 0 None (Some next) → IsSound units (spot (at_state next)) → IsUnitTrie units

-- no key is longer than the limit
abbrev pub IsWithin : List ℕ → ℕ → Type 0
IsWithin units limit = (key : List ℕ) (number : ℤ) → MapsKey units (at_node 0) key number → length key ≤ limit

-- the keys and values of the units, in order, no key longer than the limit
pub record IsListing (units : List ℕ) (limit : ℕ) (pairs : List (List ℕ × ℤ)) : Type 0 where
  pub trie : IsUnitTrie units
  pub entries : (key : List ℕ) (number : ℤ) → Contains pairs (key, number) ↔ MapsKey units (at_node 0) key number
  pub sorted : IsStrictlySortedBy (slice_cmp nat_cmp) (map (λ pair. pair.0) pairs)
  pub bound : IsWithin units limit
  pub from_start : (key : List ℕ) (number : ℤ) → MapsKey units (at_state (start units)) key number ↔ MapsKey units (at_node 0) key number
  pub whole : units ≢ [] → IsWhole units (at_state (start units))
