-- the ranks at which lists begin, kept as offsets in blocks: to each the base of its block is added
use Rattle.std.specs.Prelude.{ℕ, ◌+◌, ◌*◌, ◌/◌, ◌%◌, ◌^◌, ◌<◌, ◌≤◌, List, [], ◌∷◌, length, slice_index, vec_capacity}
use Rattle.collate_lists.specs.declared.starts.TheConstants.{BLOCK}
use Rattle.collate_lists.specs.declared.starts.Starts.{Starts}

-- this list begins at the rank or before it, and the next one, if there is one, after it
pub record IsAround (starts : List ℕ) (rank index : ℕ) : Type 0 where
  pub within : index < length starts
  pub from : slice_index starts index ≤ rank
  pub before : index + 1 < length starts → rank < slice_index starts (index + 1)

-- offsets with the bases of their blocks, the first of them counted as from; sums wrap
abbrev pub ranks_from : List ℕ → ℕ → List ℕ → List ℕ
ranks_from bases from [] = []
ranks_from bases from (offset ∷ offsets) = (offset + slice_index bases (from / BLOCK)) % 2 ^ 64 ∷ ranks_from bases (from + 1) offsets

-- the ranks themselves
abbrev pub ranks_of : Starts → List ℕ
ranks_of starts = ranks_from starts.bases.items 0 starts.offsets.items

-- each block has its base
abbrev pub AreBased : Starts → Type 0
AreBased starts = length starts.offsets.items ≤ BLOCK * length starts.bases.items

-- one rank more takes no memory
pub record HasSpace (starts : Starts) : Type 0 where
  pub offsets : length starts.offsets.items < vec_capacity starts.offsets
  pub bases : length starts.offsets.items < BLOCK * length starts.bases.items
