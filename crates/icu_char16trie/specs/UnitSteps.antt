-- What a unit leads to in a unit trie, by the cases of its nodes. There is nothing where the units
-- match no key or break the grammar.
use Rattle.std.specs.Prelude.{ℕ, suc, zero, ◌+◌, ◌-◌, ◌/◌, ◌%◌, ltb, leb, ◌==◌, if◌then◌else◌, List, slice_get, Option, Some, None}
use Rattle.std.specs.Int.{cast_signed, w32}
use Rattle.icu_char16trie.specs.UnitNumbers.{after, final_number, intermediate_number, delta, landing}
use Rattle.icu_char16trie.specs.declared.node.Branch.{Branch}
use Rattle.icu_char16trie.specs.declared.node.Entry.{Entry}
use Rattle.icu_char16trie.specs.declared.node.Match.{Match}
use Rattle.icu_char16trie.specs.declared.node.Target.{Target}
use Rattle.icu_char16trie.specs.declared.node.Target.TheVariants.{Value, Node}
use Rattle.icu_char16trie.specs.declared.node.State.{State}
use Rattle.icu_char16trie.specs.declared.node.State.TheVariants as state
use Rattle.icu_char16trie.specs.declared.node.Arrival.{Arrival}
use Rattle.icu_char16trie.specs.declared.TrieResult.TheVariants.{NoValue, Intermediate, FinalValue}

-- the half of a branch of over five units in which the unit is looked for
abbrev pub half_of : List ℕ → ℕ → Branch → Option Branch
half_of units unit branch = after (slice_get units branch.index) (λ middle. after (delta units (branch.index + 1)) (λ jump.
    if ltb unit middle then after (landing units jump) (λ index. Some (record { count = branch.count / 2; index = index }))
    else Some (record { count = branch.count - branch.count / 2; index = jump.end })))

-- the part of at most five units in which the unit is looked for, within this number of halvings
unfoldable pub small_part : List ℕ → ℕ → ℕ → Branch → Option Branch
small_part units unit zero branch = if leb branch.count 5 then Some branch else None
small_part units unit (suc halvings) branch =
    if leb branch.count 5 then Some branch
    else after (half_of units unit branch) (λ half. small_part units unit halvings half)

-- a branch unit before the last, and the number after it
abbrev pub entry_at : List ℕ → ℕ → Option Entry
entry_at units index = after (slice_get units index) (λ unit. after (slice_get units (index + 1)) (λ lead.
    after (final_number units (lead % 0x8000) (index + 2)) (λ number.
    Some (record { unit = unit; is_value = leb 0x8000 lead; number = number }))))

-- the number of a branch unit is a value, or a jump to a node
abbrev pub entry_target : List ℕ → Entry → Option Target
entry_target units entry =
    if entry.is_value then Some (Value entry.number.value)
    else after (landing units entry.number) (λ index. Some (Node index))

-- what the unit leads to among this number of entries, the last unit and the node after it
unfoldable pub target_in : List ℕ → ℕ → ℕ → ℕ → Option Target
target_in units unit zero index = after (slice_get units index) (λ last. if last == unit then Some (Node (index + 1)) else None)
target_in units unit (suc entries) index = after (entry_at units index) (λ entry.
    if entry.unit == unit then entry_target units entry
    else target_in units unit entries entry.number.end)

-- a node of a type below 40, whose units begin at the index
abbrev pub opened : List ℕ → ℕ → ℕ → Option State
opened units kind index =
    if leb 0x30 kind then Some (state.Match (record { left = kind - 0x2f; index = index }))
    else (if kind == 0 then after (slice_get units index) (λ last. Some (state.Branch (record { count = last + 1; index = index + 1 })))
    else Some (state.Branch (record { count = kind + 1; index = index })))

-- a key that ends here, and no longer one begins with it
abbrev pub ended : ℕ → Arrival
ended value = record { answer = FinalValue (cast_signed w32 value); state = state.Stopped }

-- a key that ends here, and longer ones
abbrev pub passed : ℕ → State → Arrival
passed value next = record { answer = Intermediate (cast_signed w32 value); state = next }

-- the beginning of keys
abbrev pub begun : State → Arrival
begun next = record { answer = NoValue; state = next }

-- what the node at an index says
abbrev pub arrive_at : List ℕ → ℕ → Option Arrival
arrive_at units index = after (slice_get units index) (λ lead.
    if leb 0x8000 lead then after (final_number units (lead - 0x8000) (index + 1)) (λ number. Some (ended number.value))
    else (if leb 0x40 lead then after (intermediate_number units lead (index + 1)) (λ number.
    after (opened units (lead % 0x40) number.end) (λ next. Some (passed number.value next)))
    else after (opened units lead (index + 1)) (λ next. Some (begun next))))

-- what a branch unit leads to says
abbrev pub reached : List ℕ → Target → Option Arrival
reached units (Value value) = Some (ended value)
reached units (Node index) = arrive_at units index

-- what a unit leads to where a unit must match
abbrev pub matched : List ℕ → Match → ℕ → Option Arrival
matched units run unit = after (slice_get units run.index) (λ expected.
    if expected == unit then (if leb run.left 1 then arrive_at units (run.index + 1)
    else Some (begun (state.Match (record { left = run.left - 1; index = run.index + 1 }))))
    else None)

-- what a unit leads to at a branch
abbrev pub branched : List ℕ → Branch → ℕ → Option Arrival
branched units branch unit = after (small_part units unit branch.count branch) (λ part.
    after (target_in units unit (part.count - 1) part.index) (λ target. reached units target))

-- what a unit leads to
abbrev pub step : List ℕ → State → ℕ → Option Arrival
step units (state.Stopped) unit = None
step units (state.Match run) unit = matched units run unit
step units (state.Branch branch) unit = branched units branch unit

-- the state, or the stop where there is none
abbrev pub or_stopped : Option State → State
or_stopped (Some next) = next
or_stopped None = state.Stopped

-- where a cursor starts: at a node with no value
abbrev pub start_node : List ℕ → Option State
start_node units = after (slice_get units 0) (λ lead. if ltb lead 0x40 then opened units lead 1 else None)

-- where a cursor starts, stopped where there is no such node
abbrev pub start : List ℕ → State
start units = or_stopped (start_node units)
