-- The words of full lists, whose characters may stand in the lists of tables.
use Rattle.std.specs.Prelude.{◌≡◌, ℕ, ◌-◌, ◌<◌, ◌≤◌, ◌⊎◌, ◌^◌, true, cond, ltb, List, [], ◌++◌, length, sum_by, take, slice_index, slice_get, Option, Some, None}
use Rattle.std.specs.List.{All}
use Rattle.std.specs.Char.{IsScalar}
use Rattle.icu_normalizer_core.specs.declared.canonical.check.left.Left.{Left}
use Rattle.icu_normalizer_core.specs.CanonicalWords.{states_list, is_inside, full_of_word}
use Rattle.icu_normalizer_core.specs.ListRoom.{is_stated}
use Rattle.icu_normalizer_core.specs.Settled.{left_items}

-- the word states the list, and names no index outside
pub record StatesList (scalars16 scalars24 : List ℕ) (word : ℕ) (list : List ℕ) : Type 0 where
  pub fits : word < 2 ^ 30
  pub states : states_list word ≡ true
  pub inside : is_inside scalars16 scalars24 word ≡ true
  pub full : (c : ℕ) → full_of_word scalars16 scalars24 c word ≡ list

-- the word states the list, and does so when scalars24 grows at its end
abbrev pub KeepsStating : List ℕ → List ℕ → ℕ → List ℕ → Type 0
KeepsStating scalars16 scalars24 word list = (more : List ℕ) → StatesList scalars16 (scalars24 ++ more) word list

-- what is settled of a triple is a list of at most eight characters, which the word states
abbrev pub StatesSettled : List ℕ → List ℕ → Option (Option Left) → ℕ → Type 0
StatesSettled scalars16 scalars24 found word =
    (left : Left) × (found ≡ Some (Some left)) × (length (left_items left) ≤ 8) × KeepsStating scalars16 scalars24 word (left_items left)

-- how many slots a list takes among those of scalars24: none where its word states it by itself
abbrev pub slots_of : List ℕ → ℕ
slots_of list = cond (is_stated list) 0 (length list)

-- how many a settled list takes; one of over eight characters has no word
abbrev pub settled_slots : Option Left → ℕ
settled_slots (Some left) = cond (ltb 8 (length (left_items left))) 0 (slots_of (left_items left))
settled_slots None = 0

-- the first words, so many, state what is settled of their triples
pub record StateSettled (scalars24 : List ℕ) (settled : List (Option Left)) (words : List ℕ) (indices : ℕ) : Type 0 where
  pub count : length words ≡ indices
  pub size : length scalars24 ≤ sum_by settled_slots (take indices settled)
  pub each : (i : ℕ) → i < indices → StatesSettled [] scalars24 (slice_get settled i) (slice_index words i)

-- what is settled is lists of characters, none of them empty
abbrev pub AreLists : List (Option Left) → Type 0
AreLists settled = (i : ℕ) (left : Left) → slice_get settled i ≡ Some (Some left) → All IsScalar (left_items left) × (0 < length (left_items left))

-- a triple isn't settled, or its list has over eight characters
abbrev pub HasUnsettled : List (Option Left) → Type 0
HasUnsettled settled =
    (i : ℕ) × (i < length settled) × ((left : Left) → slice_get settled i ≡ Some (Some left) → 8 < length (left_items left))

-- so it is, or the lists that are settled take more slots than words name
abbrev pub HasUnstated : List (Option Left) → Type 0
HasUnstated settled = HasUnsettled settled ⊎ (2 ^ 14 - 1 ≤ sum_by settled_slots settled)
