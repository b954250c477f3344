-- Characters that are named, each once.
use Rattle.std.specs.Prelude.{◌≡◌, ℕ, ◌-◌, ◌≤◌, ◌<◌, ◌/◌, ◌⊎◌, cond, List, [], ◌∷◌, ◌++◌, map, nat_eq}
use Rattle.std.specs.List.{IsDistinct}
use Rattle.std.specs.BTreeSet.{BTreeSet, contains}
use Rattle.std.specs.Ordering.{nat_cmp}
use Rattle.std.specs.Set.{distinct_count, is_member}

-- a list with a character, which is put after the others where it isn't there
abbrev pub with_new : List ℕ → ℕ → List ℕ
with_new named c = cond (is_member nat_eq named c) named (named ++ c ∷ [])

-- the set has the characters of the list
abbrev pub HasThese : BTreeSet ℕ → List ℕ → Type 0
HasThese seen named = (c : ℕ) → contains nat_cmp seen c ≡ is_member nat_eq named c

-- the aligned block of 512 in which a character stands
abbrev pub wide_block : ℕ → ℕ
wide_block c = c / 512

-- the aligned block of 16, from U+10000 on: a character below counts as U+10000 does, since tries have room for all blocks there
abbrev pub narrow_block : ℕ → ℕ
narrow_block c = (c - 0x1_0000) / 16

-- in how many blocks characters stand
abbrev pub block_count : (ℕ → ℕ) → List ℕ → ℕ
block_count block_of characters = distinct_count nat_eq (map block_of characters)

-- characters stand in no more blocks than tries have room for
pub record AreInFewBlocks (characters : List ℕ) : Type 0 where
  pub wide : block_count wide_block characters ≤ 700
  pub narrow : block_count narrow_block characters ≤ 11000

-- there are more characters than a limit, or they stand in more blocks than tries have room for
abbrev pub AreMany : ℕ → List ℕ → Type 0
AreMany limit characters = (limit < distinct_count nat_eq characters) ⊎ (AreInFewBlocks characters → ⊥)

-- the characters of a list, each once
pub record AreDistinctOf (all named : List ℕ) : Type 0 where
  pub distinct : IsDistinct nat_eq named
  pub same : (c : ℕ) → is_member nat_eq named c ≡ is_member nat_eq all c
