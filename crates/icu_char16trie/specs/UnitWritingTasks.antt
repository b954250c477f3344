-- What is still to be written of a unit trie, and what it leads to.
use Rattle.std.specs.Prelude.{ℕ, ℤ, ◌+◌, ◌-◌, ◌^◌, ◌<◌, ◌≤◌, List, [], ◌∷◌, ◌++◌, length, Option, Some, None}
use Rattle.std.specs.Int.{cast_signed, w32}
use Rattle.icu_char16trie.specs.UnitNumberForms.{number_form, intermediate_form, delta_form}
use Rattle.icu_char16trie.specs.UnitPairs.{AreSorted, AreGroups, rests, spread, room, Extends}
use Rattle.icu_char16trie.specs.UnitLayouts.{Lays, node, within}
use Rattle.icu_char16trie.specs.declared.writer.task.Task.{Task}
use Rattle.icu_char16trie.specs.declared.writer.task.Task.TheVariants as task

-- the units in front of others spell the pairs
pub record IsNodeLaid (pairs : List (List ℕ × ℤ)) (before after : List ℕ) : Type 0 where
  pub lays : Lays after (node pairs)
  pub extends : Extends before after
  pub size : length after ≤ length before + room pairs

-- the units in front of others spell the groups
pub record AreGroupsLaid (groups : List (ℕ × List (List ℕ × ℤ))) (before after : List ℕ) : Type 0 where
  pub lays : (low high : ℕ) → AreGroups low high groups → Lays after (within low high groups)
  pub extends : Extends before after
  pub size : length after + 4 ≤ length before + room (spread groups)

-- a node of the pairs can be written in front of the units
pub record CanWrite (pairs : List (List ℕ × ℤ)) (depth : ℕ) (units : List ℕ) : Type 0 where
  pub some : 0 < length pairs
  pub sorted : AreSorted pairs
  pub fits : length units + room pairs < 2 ^ 32
  pub deep : depth + room pairs < 2 ^ 32

-- it was noted how many units there were, and those since then are not too many
abbrev pub HasMark : List ℕ → List ℕ → Type 0
HasMark [] units = ⊥
HasMark (mark ∷ marks) units = (mark ≤ length units) × (length units < 2 ^ 32)

-- the marks before the last, and how many units were written since
abbrev pub since : List ℕ → List ℕ → List ℕ × ℕ
since [] units = ([], 0)
since (mark ∷ marks) units = (marks, length units - mark)

-- the task can be done
abbrev pub CanTake : Task → List ℕ → List ℕ → Type 0
CanTake (task.Node pairs depth) marks units = CanWrite (rests depth pairs.now) depth units
CanTake (task.Unit unit) marks units = Unit {0}
CanTake (task.Run run) marks units = Unit {0}
CanTake (task.Final number) marks units = Unit {0}
CanTake (task.Intermediate kind number) marks units = kind < 0x40
CanTake (task.Mark) marks units = Unit {0}
CanTake (task.Jump) marks units = HasMark marks units
CanTake (task.Delta) marks units = HasMark marks units

-- the tasks, done one after another in front of the units, make units that spell the pairs
abbrev pub Finishes : List (List ℕ × ℤ) → List Task → List ℕ → List ℕ → Type 0
Finishes goal [] marks units = IsNodeLaid goal [] units
Finishes goal (task.Node pairs depth ∷ tasks) marks units =
    CanWrite (rests depth pairs.now) depth units × ((after : List ℕ) → IsNodeLaid (rests depth pairs.now) units after → Finishes goal tasks marks after)
Finishes goal (task.Unit unit ∷ tasks) marks units = Finishes goal tasks marks (unit ∷ units)
Finishes goal (task.Run run ∷ tasks) marks units = Finishes goal tasks marks (run.now ++ units)
Finishes goal (task.Final number ∷ tasks) marks units = Finishes goal tasks marks (number_form 0x8000 number ++ units)
Finishes goal (task.Intermediate kind number ∷ tasks) marks units = (kind < 0x40) × Finishes goal tasks marks (intermediate_form kind number ++ units)
Finishes goal (task.Mark ∷ tasks) marks units = Finishes goal tasks (length units ∷ marks) units
Finishes goal (task.Jump ∷ tasks) marks units =
    HasMark marks units × Finishes goal tasks (since marks units).0 (number_form 0 (since marks units).1 ++ units)
Finishes goal (task.Delta ∷ tasks) marks units =
    HasMark marks units × Finishes goal tasks (since marks units).0 (delta_form (since marks units).1 ++ units)

-- the new tasks write what is said before the units, no more units than the bound, and go on with the old ones
abbrev pub Adds : List Task → List Task → (List ℕ → List ℕ → Type 0) → ℕ → Type 0
Adds old new Written most = (goal : List (List ℕ × ℤ)) (marks units : List ℕ) → length units + most < 2 ^ 32
    → ((after : List ℕ) → Written units after → Finishes goal old marks after) → Finishes goal new marks units

-- the type of a node, after the value of a key that ends there, if one does
abbrev pub head_task : ℕ → Option ℕ → Task
head_task kind None = task.Unit kind
head_task kind (Some number) = task.Intermediate kind number

-- the pairs, after the empty key with the value, if there is one
abbrev pub headed : Option ℕ → List (List ℕ × ℤ) → List (List ℕ × ℤ)
headed None pairs = pairs
headed (Some number) pairs = ([], cast_signed w32 number) ∷ pairs

-- a bound on the steps that a task takes
abbrev pub cost : Task → ℕ
cost (task.Node pairs depth) = room (rests depth pairs.now)
cost (task.Unit unit) = 1
cost (task.Run run) = 1
cost (task.Final number) = 1
cost (task.Intermediate kind number) = 1
cost (task.Mark) = 1
cost (task.Jump) = 1
cost (task.Delta) = 1

-- a bound on the steps that tasks take
abbrev pub weight : List Task → ℕ
weight [] = 0
weight (task ∷ tasks) = cost task + weight tasks
