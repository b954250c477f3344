-- Folds over the keys of a unit trie: what the units of each key are folded to, with its value.
use Rattle.std.specs.Prelude.{◌≡◌, ℕ, ℤ, Bool, true, false, ◌≤◌, ◌+◌, ◌-◌, ◌^◌, ◌⊎◌, ◌↔◌, List, [], ◌∷◌, ◌++◌, length, fold, Option, Some, None, Ok, Err}
use Rattle.std.specs.Int.{cast_signed, w32}
use Rattle.std.specs.List.{Contains}
use Rattle.icu_char16trie.specs.UnitGrammar.{IsUnitTrie, IsWithin}
use Rattle.icu_char16trie.specs.UnitMaps.{MapsKey, at_node}
use Rattle.icu_char16trie.specs.UnitPartSteps.{part_step, part_index}
use Rattle.icu_char16trie.specs.UnitReadingOrder.{extended}
use Rattle.icu_char16trie.specs.declared.reader.folds.Job.{Job}
use Rattle.icu_char16trie.specs.declared.reader.part.Part.{Part}
use Rattle.icu_char16trie.specs.declared.reader.part.Step.{Step}

-- units keep the grammar, and these are what their keys are folded to, with their values
pub record AreFolded {A : Type 0} (onward : A → ℕ → A) (start : A) (units : List ℕ) (results : List (A × ℤ)) : Type 0 where
  pub trie : IsUnitTrie units
  pub bound : IsWithin units (length units)
  pub said : (folded : A) (number : ℤ)
      → Contains results (folded, number) ↔ ((key : List ℕ) × MapsKey units (at_node 0) key number × (fold onward start key ≡ folded))

-- ## Parts

-- all that a part comes to can be read
pub data IsReadable (units : List ℕ) : Part → Type 0 where
  readable : (part : Part) (step : Step) → part_step units part ≡ Ok step
      → ((next : Part) → step.next ≡ Some next → IsReadable units next) → ((rest : Part) → step.rest ≡ Some rest → IsReadable units rest)
      → IsReadable units part

-- a part spells a key with a number
pub data Spells (units : List ℕ) : Part → List ℕ → ℤ → Type 0 where
  spelled_here : (part : Part) (step : Step) (value : ℕ) → part_step units part ≡ Ok step → step.value ≡ Some value
      → Spells units part (extended [] step.unit) (cast_signed w32 value)
  spelled_next : (part : Part) (step : Step) (next : Part) (key : List ℕ) (number : ℤ) → part_step units part ≡ Ok step → step.next ≡ Some next
      → Spells units next key number → Spells units part (extended [] step.unit ++ key) number
  spelled_rest : (part : Part) (step : Step) (rest : Part) (key : List ℕ) (number : ℤ) → part_step units part ≡ Ok step → step.rest ≡ Some rest
      → Spells units rest key number → Spells units part key number

-- ## Jobs

-- how much is left to be read: three times less for a part that begins later
unfoldable pub weight : {A : Type 0} → ℕ → List (Job A) → ℕ
weight size [] = 0
weight size (job ∷ rest) = 3 ^ (size - part_index job.part) + weight size rest

-- the same of a part, if there is one
abbrev pub part_weight : ℕ → Option Part → ℕ
part_weight size None = 0
part_weight size (Some part) = 3 ^ (size - part_index part)

-- a list has grown by just these items
abbrev pub GrowsBy : {X : Type 0} → (X → Type 0) → List X → List X → Type 0
GrowsBy {X} IsNew before after = (x : X) → Contains after x ↔ (Contains before x ⊎ IsNew x)

module _ {A : Type 0} (onward : A → ℕ → A) where
  -- what is made of a unit more, if there is one
  abbrev pub folded_on : A → Option ℕ → A
  folded_on folded None = folded
  folded_on folded (Some unit) = onward folded unit

  -- a job comes to a result at its first step
  abbrev pub IsNoted : Job A → Step → A × ℤ → Type 0
  IsNoted job step result = (value : ℕ) × (step.value ≡ Some value) × (result ≡ (folded_on job.folded step.unit, cast_signed w32 value))

  -- a job comes to another one by its first step
  abbrev pub IsBehind : Job A → Step → Job A → Type 0
  IsBehind job step other =
      ((next : Part) × (step.next ≡ Some next) × (other ≡ record { part = next; folded = folded_on job.folded step.unit }))
      ⊎ ((rest : Part) × (step.rest ≡ Some rest) × (other ≡ record { part = rest; folded = job.folded }))

  -- a job comes to a result
  abbrev pub Finds : List ℕ → Job A → A × ℤ → Type 0
  Finds units job result = (key : List ℕ) × Spells units job.part key result.1 × (fold onward job.folded key ≡ result.0)

  -- the jobs left and the results so far are what the first job comes to
  pub record IsFolding (units : List ℕ) (first : Job A) (left : List (Job A)) (results : List (A × ℤ)) : Type 0 where
    pub readable : ((job : Job A) → Contains left job → IsReadable units job.part) ↔ IsReadable units first.part
    pub found : (result : A × ℤ)
        → Finds units first result ↔ (Contains results result ⊎ ((job : Job A) × Contains left job × Finds units job result))

  -- a job is taken up: its first step gives a result or none, and jobs that are left
  pub record IsTakenUp (units : List ℕ) (job : Job A) (step : Step) (before after : List (Job A)) (read now : List (A × ℤ)) : Type 0 where
    pub stands : part_step units job.part ≡ Ok step
    pub jobs : GrowsBy (IsBehind job step) before after
    pub results : GrowsBy (IsNoted job step) read now
    pub less : (size : ℕ) → weight size after ≤ weight size before + part_weight size step.next + part_weight size step.rest

  -- a job was taken up, or its part can't be read
  abbrev pub HasTakenUp : List ℕ → Job A → List (Job A) → List (Job A) → List (A × ℤ) → List (A × ℤ) → Bool → Type 0
  HasTakenUp units job before after read now true = (step : Step) × IsTakenUp units job step before after read now
  HasTakenUp units job before after read now false = (index : ℕ) × (part_step units job.part ≡ Err index)

  -- all that the first job comes to was read, or some of it can't be
  abbrev pub HasEnded : List ℕ → Job A → List (A × ℤ) → Bool → Type 0
  HasEnded units first results true =
      IsReadable units first.part × ((result : A × ℤ) → Finds units first result ↔ Contains results result)
  HasEnded units first results false = IsReadable units first.part → ⊥
