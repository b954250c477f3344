-- The visits that a walk along steps has still to make.
use Rattle.std.specs.Prelude.{◌≡◌, ℕ, ◌+◌, ◌<◌, ◌≤◌, zero, suc, Bool, true, false, List, length, ◌⊎◌, Contains, slice_index_or, Option, Some, None}
use Rattle.icu_normalizer_core.specs.Canonical.{Reaches}
use Rattle.icu_normalizer_core.specs.StepOrder.{AreInOrder}
use Rattle.icu_normalizer_core.specs.declared.step_order.Visit.{Visit}

-- a character that is to be entered
abbrev pub to_be_entered : ℕ → Visit
to_be_entered c = record { character = c; is_entered = false }

-- the visit at an index of a stack
abbrev pub character_at : List Visit → ℕ → ℕ
character_at stack i = (slice_index_or stack i (to_be_entered 0)).character

abbrev pub entered_at : List Visit → ℕ → Bool
entered_at stack i = (slice_index_or stack i (to_be_entered 0)).is_entered

-- A character is left, or one of n visits from an index on is to it.
abbrev pub IsCovered : (ℕ → Option Bool) → ℕ → (ℕ → ℕ) → ℕ → ℕ → Type 0
IsCovered is_left n characters index c = (is_left c ≡ Some true) ⊎ ((j : ℕ) × (index ≤ j) × (j < n) × (characters j ≡ c))

-- A walk that has n visits to make, these characters left so far in order, and notes of what it entered whether it is left.
pub record IsWalkingOn (step : ℕ → List ℕ) (starts order : List ℕ) (is_left : ℕ → Option Bool) (n : ℕ) (characters : ℕ → ℕ) (entered : ℕ → Bool) : Type 0 where
  pub in_order : AreInOrder step order
  pub placed : (c : ℕ) → is_left c ≡ Some true → Contains order c
  pub left : (c : ℕ) → Contains order c → is_left c ≡ Some true
  pub unfinished : (c : ℕ) → is_left c ≡ Some false → (i : ℕ) × (i < n) × (entered i ≡ true) × (characters i ≡ c)
  pub opened : (i : ℕ) → i < n → entered i ≡ true → is_left (characters i) ≡ Some false
  pub once : (i j : ℕ) → i < j → j < n → entered i ≡ true → entered j ≡ true → characters i ≡ characters j → ⊥
  pub owed : (i : ℕ) → i < n → entered i ≡ true → (d : ℕ) → Contains (step (characters i)) d → IsCovered is_left n characters (i + 1) d
  pub led : (i j : ℕ) → i < j → j < n → entered i ≡ true → Reaches step (step (characters i)) (characters j)
  pub begun : (c : ℕ) → Contains starts c → IsCovered is_left n characters 0 c

abbrev pub IsWalking : (ℕ → List ℕ) → List ℕ → List ℕ → (ℕ → Option Bool) → List Visit → Type 0
IsWalking step starts order is_left stack = IsWalkingOn step starts order is_left (length stack) (character_at stack) (entered_at stack)

-- what a character is worth that isn't entered, by how many characters its step gives
abbrev pub worth : Option Bool → ℕ → ℕ
worth None count = count + 1
worth (Some is_left) count = 0

-- The work that is left with characters below a bound.
unfoldable pub work : (ℕ → List ℕ) → (ℕ → Option Bool) → ℕ → ℕ
work step is_left zero = 0
work step is_left (suc n) = work step is_left n + worth (is_left n) (length (step n))
