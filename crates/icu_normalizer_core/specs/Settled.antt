-- What mapping steps leave, found triple by triple: a triple is settled where it is known, in its first nine characters.
use Rattle.std.specs.Prelude.{◌≡◌, ◌≢◌, ℕ, suc, ◌+◌, ◌*◌, ◌/◌, ◌<◌, ◌⊎◌, List, [], ◌∷◌, length, take, slice_index, slice_get, Option, Some, None}
use Rattle.icu_normalizer_core.specs.declared.canonical.check.left.Left.{Left}
use Rattle.icu_normalizer_core.specs.Canonical.{Leaves, IsFree}
use Rattle.icu_normalizer_core.specs.CanonicalLists.{step_in, mapping}
use Rattle.icu_normalizer_core.specs.Triples.{IsTripleOf}

abbrev pub left_items : Left → List ℕ
left_items left = take left.count left.characters

-- the characters are the first nine of what steps leave of the text
abbrev pub IsStartOf : List ℕ → List ℕ → Left → Type 0
IsStartOf steps text left = (list : List ℕ) × Leaves (step_in steps) text list × (left_items left ≡ take 9 list)

-- the characters are the first nine of what steps leave of the text, where they end
abbrev pub IsLeftOf : List ℕ → List ℕ → Left → Type 0
IsLeftOf steps text left = (list : List ℕ) → Leaves (step_in steps) text list → left_items left ≡ take 9 list

-- steps leave something else of the text
abbrev pub LeavesOther : List ℕ → List ℕ → Left → Type 0
LeavesOther steps text left = (list : List ℕ) × Leaves (step_in steps) text list × (left_items left ≢ take 9 list)

-- the character of a triple, and its mapping
abbrev pub key_at : List ℕ → ℕ → ℕ
key_at steps i = slice_index steps (3 * i)

abbrev pub mapping_of : List ℕ → ℕ → List ℕ
mapping_of steps i = mapping (slice_index steps (3 * i + 1)) (slice_index steps (3 * i + 2))

-- what is known is right
pub record AreStarts (steps : List ℕ) (settled : List (Option Left)) : Type 0 where
  pub count : length settled ≡ length steps / 3
  pub each : (i : ℕ) (left : Left) → slice_get settled i ≡ Some (Some left) → IsFree (key_at steps i) → IsStartOf steps (key_at steps i ∷ []) left

-- the character has a triple that isn't settled
abbrev pub IsOpen : List ℕ → List (Option Left) → ℕ → Type 0
IsOpen steps settled c = IsFree c × ((i : ℕ) × IsTripleOf steps c i × (slice_get settled i ≡ Some None))

abbrev pub IsAmong : List ℕ → ℕ → Type 0
IsAmong [] c = ⊥
IsAmong (d ∷ ds) c = (d ≡ c) ⊎ IsAmong ds c

-- the character is open, or its mapping names an open one
abbrev pub IsStuck : List ℕ → List (Option Left) → ℕ → Type 0
IsStuck steps settled c = IsOpen steps settled c ⊎ ((d : ℕ) × IsAmong (step_in steps c) d × IsOpen steps settled d)

-- a text has a stuck character
abbrev pub HasStuck : List ℕ → List (Option Left) → List ℕ → Type 0
HasStuck steps settled text = (d : ℕ) × IsAmong text d × IsStuck steps settled d

-- no more can be settled
abbrev pub IsDone : List ℕ → List (Option Left) → Type 0
IsDone steps settled = (i : ℕ) → i < length settled → slice_get settled i ≡ Some None → HasStuck steps settled (mapping_of steps i)

-- how many triples are open
unfoldable pub open_count : List (Option Left) → ℕ
open_count [] = 0
open_count (None ∷ rest) = suc (open_count rest)
open_count (Some left ∷ rest) = open_count rest
