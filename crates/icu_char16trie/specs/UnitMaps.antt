-- The map from keys to values that units spell, by cases on the units.
use Rattle.std.specs.Prelude.{◌≡◌, ◌≢◌, ℕ, ℤ, suc, zero, ◌+◌, ◌-◌, ◌/◌, ◌%◌, ◌<◌, ◌≤◌, List, [], ◌∷◌, slice_get, Option, Some, None}
use Rattle.std.specs.Int.{cast_signed, w32}
use Rattle.icu_char16trie.specs.UnitNumbers.{final_number, intermediate_number, delta, landing}
use Rattle.icu_char16trie.specs.UnitSteps.{entry_at, entry_target, opened}
use Rattle.icu_char16trie.specs.declared.cells.Number.{Number}
use Rattle.icu_char16trie.specs.declared.node.Branch.{Branch}
use Rattle.icu_char16trie.specs.declared.node.Entry.{Entry}
use Rattle.icu_char16trie.specs.declared.node.Match.{Match}
use Rattle.icu_char16trie.specs.declared.node.Target.{Target}
use Rattle.icu_char16trie.specs.declared.node.Target.TheVariants.{Value, Node}
use Rattle.icu_char16trie.specs.declared.node.State.{State}
use Rattle.icu_char16trie.specs.declared.node.State.TheVariants as state
use Rattle.icu_char16trie.specs.declared.TrieResult.{TrieResult}
use Rattle.icu_char16trie.specs.declared.TrieResult.TheVariants.{NoMatch, NoValue, Intermediate, FinalValue}

-- the unit is one of this number of entries at an index, or the last unit after them, and leads to the target
pub data Lists (units : List ℕ) : ℕ → ℕ → ℕ → Target → Type 0 where
  last : (index unit : ℕ) → slice_get units index ≡ Some unit → Lists units zero index unit (Node (index + 1))
  here : (entries index unit : ℕ) (entry : Entry) (target : Target) → entry_at units index ≡ Some entry → entry.unit ≡ unit
      → entry_target units entry ≡ Some target → Lists units (suc entries) index unit target
  later : (entries index unit : ℕ) (entry : Entry) (target : Target) → entry_at units index ≡ Some entry → entry.unit ≢ unit
      → Lists units entries entry.number.end unit target → Lists units (suc entries) index unit target

-- the unit of a branch leads to the target: in a branch of over five units a smaller unit stands in
-- the half that is jumped to, another in the half that follows
pub data Leads (units : List ℕ) : Branch → ℕ → Target → Type 0 where
  listed : (branch : Branch) (unit : ℕ) (target : Target) → branch.count ≤ 5 → Lists units (branch.count - 1) branch.index unit target
      → Leads units branch unit target
  lower : (branch : Branch) (unit middle index : ℕ) (jump : Number) (target : Target) → 5 < branch.count
      → slice_get units branch.index ≡ Some middle → delta units (branch.index + 1) ≡ Some jump → unit < middle → landing units jump ≡ Some index
      → Leads units (record { count = branch.count / 2; index = index }) unit target → Leads units branch unit target
  upper : (branch : Branch) (unit middle : ℕ) (jump : Number) (target : Target) → 5 < branch.count
      → slice_get units branch.index ≡ Some middle → delta units (branch.index + 1) ≡ Some jump → middle ≤ unit
      → Leads units (record { count = branch.count - branch.count / 2; index = jump.end }) unit target → Leads units branch unit target

-- the node at an index: its value, if it has one, and what follows it, if anything does
pub data IsNode (units : List ℕ) : ℕ → Option ℕ → Option State → Type 0 where
  final : (index lead : ℕ) (number : Number) → slice_get units index ≡ Some lead → 0x8000 ≤ lead
      → final_number units (lead - 0x8000) (index + 1) ≡ Some number → IsNode units index (Some number.value) None
  valued : (index lead : ℕ) (number : Number) (next : State) → slice_get units index ≡ Some lead → lead < 0x8000 → 0x40 ≤ lead
      → intermediate_number units lead (index + 1) ≡ Some number → opened units (lead % 0x40) number.end ≡ Some next
      → IsNode units index (Some number.value) (Some next)
  bare : (index lead : ℕ) (next : State) → slice_get units index ≡ Some lead → lead < 0x40
      → opened units lead (index + 1) ≡ Some next → IsNode units index None (Some next)

-- where keys are read from: the node at an index, or the state of a cursor
pub data Spot : Type 0 where
  at_node : ℕ → Spot
  at_state : State → Spot

-- the units map the key to the number, read from that spot on
pub data MapsKey (units : List ℕ) : Spot → List ℕ → ℤ → Type 0 where
  ends : (index value : ℕ) (next : Option State) → IsNode units index (Some value) next
      → MapsKey units (at_node index) [] (cast_signed w32 value)
  goes_on : (index : ℕ) (value : Option ℕ) (next : State) (key : List ℕ) (number : ℤ) → IsNode units index value (Some next)
      → MapsKey units (at_state next) key number → MapsKey units (at_node index) key number
  run_on : (run : Match) (unit : ℕ) (key : List ℕ) (number : ℤ) → slice_get units run.index ≡ Some unit → 1 < run.left
      → MapsKey units (at_state (state.Match (record { left = run.left - 1; index = run.index + 1 }))) key number
      → MapsKey units (at_state (state.Match run)) (unit ∷ key) number
  run_out : (run : Match) (unit : ℕ) (key : List ℕ) (number : ℤ) → slice_get units run.index ≡ Some unit → run.left ≤ 1
      → MapsKey units (at_node (run.index + 1)) key number → MapsKey units (at_state (state.Match run)) (unit ∷ key) number
  branch_value : (branch : Branch) (unit value : ℕ) → Leads units branch unit (Value value)
      → MapsKey units (at_state (state.Branch branch)) (unit ∷ []) (cast_signed w32 value)
  branch_node : (branch : Branch) (unit index : ℕ) (key : List ℕ) (number : ℤ) → Leads units branch unit (Node index)
      → MapsKey units (at_node index) key number → MapsKey units (at_state (state.Branch branch)) (unit ∷ key) number

-- the units keep the grammar there: what a key can lead to is whole, and some key is spelled
pub data IsWhole (units : List ℕ) : Spot → Type 0 where
  whole_end : (index value : ℕ) → IsNode units index (Some value) None → IsWhole units (at_node index)
  whole_node : (index : ℕ) (value : Option ℕ) (next : State) → IsNode units index value (Some next) → IsWhole units (at_state next)
      → IsWhole units (at_node index)
  whole_run : (run : Match) (unit : ℕ) → slice_get units run.index ≡ Some unit → 1 < run.left
      → IsWhole units (at_state (state.Match (record { left = run.left - 1; index = run.index + 1 }))) → IsWhole units (at_state (state.Match run))
  whole_run_end : (run : Match) (unit : ℕ) → slice_get units run.index ≡ Some unit → run.left ≤ 1
      → IsWhole units (at_node (run.index + 1)) → IsWhole units (at_state (state.Match run))
  whole_branch : (branch : Branch) (unit : ℕ) (target : Target) → Leads units branch unit target
      → ((other index : ℕ) → Leads units branch other (Node index) → IsWhole units (at_node index)) → IsWhole units (at_state (state.Branch branch))

-- the answer has the value
abbrev pub HasValue : TrieResult → ℤ → Type 0
HasValue NoMatch number = ⊥
HasValue NoValue number = ⊥
HasValue (Intermediate value) number = value ≡ number
HasValue (FinalValue value) number = value ≡ number

-- no further unit matches after the answer
abbrev pub IsLast : TrieResult → Type 0
IsLast NoMatch = Unit {0}
IsLast NoValue = ⊥
IsLast (Intermediate value) = ⊥
IsLast (FinalValue value) = Unit {0}
