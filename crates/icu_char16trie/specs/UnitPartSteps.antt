-- What stands first in a part of a unit trie, or the index where reading stops there.
use Rattle.std.specs.Prelude.{ℕ, ◌+◌, ◌-◌, ◌/◌, ◌%◌, ltb, leb, if◌then◌else◌, List, length, slice_get, Option, Some, None, Result, Ok, Err}
use Rattle.icu_char16trie.specs.UnitNumbers.{after, final_number, intermediate_number, delta, landing}
use Rattle.icu_char16trie.specs.UnitSteps.{entry_at, entry_target, opened}
use Rattle.icu_char16trie.specs.declared.node.Match.{Match}
use Rattle.icu_char16trie.specs.declared.node.Target.{Target}
use Rattle.icu_char16trie.specs.declared.node.Target.TheVariants.{Value, Node}
use Rattle.icu_char16trie.specs.declared.node.State.{State}
use Rattle.icu_char16trie.specs.declared.node.State.TheVariants as state
use Rattle.icu_char16trie.specs.declared.reader.part.Bounded.{Bounded}
use Rattle.icu_char16trie.specs.declared.reader.part.Part.{Part}
use Rattle.icu_char16trie.specs.declared.reader.part.Part.TheVariants as part
use Rattle.icu_char16trie.specs.declared.reader.part.Step.{Step}

-- what follows from what was read, if the units went so far; else reading stops at their end
abbrev pub or_end : {A B : Type 0} → List ℕ → Option A → (A → Result B ℕ) → Result B ℕ
or_end units None f = Err (length units)
or_end units (Some x) f = f x

-- what follows where the number is within the bounds; else reading stops at the index
abbrev pub or_here : {B : Type 0} → ℕ → ℕ → ℕ → ℕ → Result B ℕ → Result B ℕ
or_here low high number index step = if ltb number low then Err index else (if leb high number then Err index else step)

-- the branch, its units within the bounds
abbrev pub bounded : ℕ → ℕ → ℕ → ℕ → Part
bounded count index low high = part.Branch (record { branch = record { count = count; index = index }; low = low; high = high })

-- the part that a node's state stands for
abbrev pub part_for : State → Option Part
part_for (state.Stopped) = None
part_for (state.Match run) = Some (part.Run run)
part_for (state.Branch branch) = Some (part.Branch (record { branch = branch; low = 0; high = 0x10000 }))

-- a node with its value and what follows it
abbrev pub at_node : Option ℕ → Option Part → Step
at_node value next = record { unit = None; value = value; next = next; rest = None }

-- a node
abbrev pub node_step : List ℕ → ℕ → Option Step
node_step units index = after (slice_get units index) (λ lead.
    if leb 0x8000 lead then after (final_number units (lead - 0x8000) (index + 1)) (λ number. Some (at_node (Some number.value) None))
    else (if leb 0x40 lead then after (intermediate_number units lead (index + 1)) (λ number.
    after (opened units (lead % 0x40) number.end) (λ next. Some (at_node (Some number.value) (part_for next))))
    else after (opened units lead (index + 1)) (λ next. Some (at_node None (part_for next)))))

-- what follows the first of units that must match
abbrev pub run_on : Match → Part
run_on run = if leb run.left 1 then part.Node (run.index + 1)
    else part.Run (record { left = run.left - 1; index = run.index + 1 })

-- the first of units that must match
abbrev pub run_step : List ℕ → Match → Option Step
run_step units run = after (slice_get units run.index) (λ unit.
    Some (record { unit = Some unit; value = None; next = Some (run_on run); rest = None }))

-- the last unit of a branch
abbrev pub last_step : List ℕ → Bounded → Result Step ℕ
last_step units b = or_end units (slice_get units b.branch.index) (λ unit. or_here b.low b.high unit b.branch.index
    (Ok (record { unit = Some unit; value = None; next = Some (part.Node (b.branch.index + 1)); rest = None })))

-- the value of a target
abbrev pub target_value : Target → Option ℕ
target_value (Value value) = Some value
target_value (Node index) = None

-- the node of a target
abbrev pub target_part : Target → Option Part
target_part (Value value) = None
target_part (Node index) = Some (part.Node index)

-- a unit of a branch before the last
abbrev pub entry_step : List ℕ → Bounded → Result Step ℕ
entry_step units b = or_end units (entry_at units b.branch.index) (λ entry. or_here b.low b.high entry.unit b.branch.index
    (or_end units (entry_target units entry) (λ target. Ok (record {
      unit = Some entry.unit;
      value = target_value target;
      next = target_part target;
      rest = Some (bounded (b.branch.count - 1) entry.number.end (entry.unit + 1) b.high);
    }))))

-- the halves of a branch of over five units
abbrev pub halves_step : List ℕ → Bounded → Result Step ℕ
halves_step units b = or_end units (slice_get units b.branch.index) (λ middle. or_here (b.low + 1) b.high middle b.branch.index
    (or_end units (delta units (b.branch.index + 1)) (λ jump. or_end units (landing units jump) (λ index.
    Ok (record {
      unit = None;
      value = None;
      next = Some (bounded (b.branch.count / 2) index b.low middle);
      rest = Some (bounded (b.branch.count - b.branch.count / 2) jump.end middle b.high);
    })))))

-- what stands first in a part
abbrev pub part_step : List ℕ → Part → Result Step ℕ
part_step units (part.Node index) = or_end units (node_step units index) Ok
part_step units (part.Run run) = or_end units (run_step units run) Ok
part_step units (part.Branch b) = if leb b.branch.count 1 then last_step units b
    else (if leb b.branch.count 5 then entry_step units b else halves_step units b)

-- where the units of a part begin
abbrev pub part_index : Part → ℕ
part_index (part.Node index) = index
part_index (part.Run run) = run.index
part_index (part.Branch b) = b.branch.index
