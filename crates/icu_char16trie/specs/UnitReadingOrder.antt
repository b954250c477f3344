-- The order in which the parts of a unit trie are read, and where reading stops.
use Rattle.std.specs.Prelude.{◌≡◌, ℕ, ℤ, Bool, true, ◌&&◌, ◌++◌, ◌<◌, ◌≤◌, ◌⊎◌, List, [], ◌∷◌, slice_get, length, map, reverse, Option, Some, None, Ok, Err, codes}
use Rattle.std.specs.Fmt.{decimal}
use Rattle.std.specs.Int.{cast_signed, w32}
use Rattle.icu_char16trie.specs.UnitPartSteps.{part_step, part_index}
use Rattle.icu_char16trie.specs.declared.reader.part.Part.{Part}
use Rattle.icu_char16trie.specs.declared.reader.part.Part.TheVariants as part
use Rattle.icu_char16trie.specs.declared.reader.part.Step.{Step}
use Rattle.icu_char16trie.specs.declared.reader.error.ReadUnitsError.{ReadUnitsError}
use Rattle.icu_char16trie.specs.declared.reader.error.ReadUnitsError.TheVariants.{BadUnits, Memory}
use Rattle.icu_char16trie.specs.declared.reader.queue.Task.{Task}
use Rattle.icu_char16trie.specs.declared.reader.queue.Queue.{Queue}

-- a part, and the units of the keys that lead to it
abbrev pub Job : Type 0
Job = List ℕ × Part

-- the key, and a unit more if there is one
abbrev pub extended : List ℕ → Option ℕ → List ℕ
extended key None = key
extended key (Some unit) = key ++ (unit ∷ [])

-- the part after the key, if there is one
abbrev pub onward : List ℕ → Option Part → List Job
onward key None = []
onward key (Some part) = (key, part) ∷ []

-- the key with its value, if it has one
abbrev pub noted : List ℕ → Option ℕ → List (List ℕ × ℤ)
noted key None = []
noted key (Some value) = (key, cast_signed w32 value) ∷ []

-- a key may go on with the unit, if there is one
abbrev pub HasRoom : ℕ → List ℕ → Option ℕ → Type 0
HasRoom limit key None = Unit {0}
HasRoom limit key (Some unit) = length key < limit

-- what is left to be read after the key, the first part first
abbrev pub jobs_of : List ℕ → Step → List Job
jobs_of key step = onward (extended key step.unit) step.next ++ onward key step.rest

-- what was read after the key
abbrev pub pairs_of : List ℕ → Step → List (List ℕ × ℤ)
pairs_of key step = noted (extended key step.unit) step.value

-- reading takes up a part: what stands first in it is read, and what is left of it comes next
pub record IsTaken (units : List ℕ) (limit : ℕ) (key : List ℕ) (part : Part) (before after : List Job) (read now : List (List ℕ × ℤ)) : Type 0 where
  pub step : Step
  pub stands : part_step units part ≡ Ok step
  pub room : HasRoom limit key step.unit
  pub jobs : after ≡ jobs_of key step ++ before
  pub pairs : now ≡ read ++ pairs_of key step

-- reading stops at the index: nothing can be read there, or a key would be too long
abbrev pub IsStuck : List ℕ → ℕ → List ℕ → Part → ℕ → Type 0
IsStuck units limit key part index =
    (part_step units part ≡ Err index)
    ⊎ ((step : Step) × (part_step units part ≡ Ok step) × (HasRoom limit key step.unit → ⊥) × (index ≡ part_index part))

-- the parts are read to their ends, and spell the keys and values in this order
pub data Reads (units : List ℕ) (limit : ℕ) : List Job → List (List ℕ × ℤ) → Type 0 where
  done : Reads units limit [] []
  on : (key : List ℕ) (part : Part) (step : Step) (rest : List Job) (pairs : List (List ℕ × ℤ)) → part_step units part ≡ Ok step
      → HasRoom limit key step.unit → Reads units limit (jobs_of key step ++ rest) pairs
      → Reads units limit ((key, part) ∷ rest) (pairs_of key step ++ pairs)

-- reading the parts stops at the index
pub data StopsIn (units : List ℕ) (limit : ℕ) : List Job → ℕ → Type 0 where
  here : (key : List ℕ) (part : Part) (rest : List Job) (index : ℕ) → IsStuck units limit key part index → StopsIn units limit ((key, part) ∷ rest) index
  beyond : (key : List ℕ) (part : Part) (step : Step) (rest : List Job) (index : ℕ) → part_step units part ≡ Ok step
      → HasRoom limit key step.unit → StopsIn units limit (jobs_of key step ++ rest) index → StopsIn units limit ((key, part) ∷ rest) index

-- what a task is to read
abbrev pub job_of : Task → Job
job_of task = (task.key.items, task.part)

-- what is still to be read, the next part first
abbrev pub jobs_left : Queue → List Job
jobs_left queue = reverse (map job_of queue.tasks.items)

-- what was read so far
abbrev pub pairs_read : Queue → List (List ℕ × ℤ)
pairs_read queue = map (λ entry. (entry.0.items, entry.1)) queue.entries.items

-- the parts were read to their ends
abbrev pub HasRead : List ℕ → ℕ → List Job → List (List ℕ × ℤ) → List (List ℕ × ℤ) → Type 0
HasRead units limit jobs read now = (pairs : List (List ℕ × ℤ)) × Reads units limit jobs pairs × (now ≡ read ++ pairs)

-- all of these pass the test
abbrev pub passes_all : (List ℕ → ℤ → Bool) → List (List ℕ × ℤ) → Bool
passes_all test [] = true
passes_all test (pair ∷ pairs) = test pair.0 pair.1 && passes_all test pairs

-- the parts were read to their ends, and all that they spell was tested
abbrev pub HasTested : List ℕ → ℕ → List Job → (List ℕ → ℤ → Bool) → Bool → Type 0
HasTested units limit jobs test all = (pairs : List (List ℕ × ℤ)) × Reads units limit jobs pairs × (all ≡ passes_all test pairs)

-- where reading stops: at a value of the first node, or in what the first node leads to
pub data StopsAt (units : List ℕ) (limit : ℕ) : ℕ → Type 0 where
  root_valued : (lead : ℕ) → slice_get units 0 ≡ Some lead → 0x40 ≤ lead → StopsAt units limit 0
  in_parts : (lead index : ℕ) → slice_get units 0 ≡ Some lead → lead < 0x40 → StopsIn units limit (([], part.Node 0) ∷ []) index → StopsAt units limit index

-- a refusal as it is printed
abbrev pub error_text : ReadUnitsError → List ℕ
error_text (BadUnits index) = codes "bad units at " ++ decimal index
error_text Memory = codes "out of memory"
