-- Where a character's triple stands among mappings.
use Rattle.std.specs.Prelude.{◌≡◌, ◌≢◌, ℕ, ◌+◌, ◌-◌, ◌*◌, ◌/◌, ◌^◌, ◌<◌, List, length, slice_index}
use Rattle.std.specs.Char.{IsScalar}
use Rattle.icu_normalizer_core.specs.CanonicalLists.{pair_first, pair_second, pair_composed}

-- no whole triple is the character's
abbrev pub IsUnlisted : List ℕ → ℕ → Type 0
IsUnlisted steps c = (i : ℕ) → 3 * i < length steps → slice_index steps (3 * i) ≢ c

-- the whole triple at the index, counted by threes, is the character's
abbrev pub IsTripleOf : List ℕ → ℕ → ℕ → Type 0
IsTripleOf steps c index = (3 * index + 2 < length steps) × (slice_index steps (3 * index) ≡ c)

-- the triple at the index is of characters, and its first above that of the one before
pub record IsTripleAt (steps : List ℕ) (index : ℕ) : Type 0 where
  pub character : IsScalar (slice_index steps (3 * index))
  pub first : IsScalar (slice_index steps (3 * index + 1))
  pub second : slice_index steps (3 * index + 2) ≢ 0x110000 → IsScalar (slice_index steps (3 * index + 2))
  pub above : 0 < index → slice_index steps (3 * index - 3) < slice_index steps (3 * index)

-- the entry at the index is of characters, and its two above those of the one before
pub record IsPairAt (pairs : List ℕ) (index : ℕ) : Type 0 where
  pub first : IsScalar (pair_first (slice_index pairs index))
  pub second : IsScalar (pair_second (slice_index pairs index))
  pub composed : IsScalar (pair_composed (slice_index pairs index))
  pub above : 0 < index → slice_index pairs (index - 1) / 2 ^ 21 < slice_index pairs index / 2 ^ 21
