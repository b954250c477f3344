-- The code point map that a builder stands for: a default, overwritten by the writes that were
-- accepted, in their order. A write of the default is none.
use Rattle.std.specs.Prelude.{◌≡◌, ℕ, ◌≤◌, Bool, not, ◌&&◌, nat_le, ◌==◌, List, length, slice_index_or, if◌then◌else◌}
use Rattle.std.specs.declared.ops.RangeInclusive.{RangeInclusive}
use Rattle.std.specs.Range.{range_inclusive_start, range_inclusive_end, range_inclusive_exhausted}
use Rattle.icu_codepointtrie.specs.declared.trie.TrieType.{TrieType}

-- the default, the value of numbers that are no code point, the type of the trie that is built, and
-- the values of the code points
pub record CodePointMap (T : Type 0) : Type 0 where
  pub default : T
  pub error : T
  pub trie_type : TrieType
  pub values : List T

-- what the map has for a code point
abbrev pub mapped : {T : Type 0} → CodePointMap T → ℕ → T
mapped m c = slice_index_or m.values c m.default

-- there is a value for each code point
pub record IsMap {T : Type 0} (m : CodePointMap T) : Type 0 where
  pub all : length m.values ≡ 0x11_0000

-- the code points from the first to the last have the value, unless it is the default, and all else
-- is as before
pub record IsWritten {T : Type 0} (number : T → ℕ) (before : CodePointMap T) (covers : ℕ → Bool) (value : T) (after : CodePointMap T) : Type 0 where
  pub all : length after.values ≡ length before.values
  pub values : (c : ℕ) → c ≤ 0x10_FFFF → mapped after c ≡ (if covers c && not (number value == number before.default) then value else mapped before c)
  pub default : after.default ≡ before.default
  pub error : after.error ≡ before.error
  pub trie_type : after.trie_type ≡ before.trie_type

-- whether a range that was not gone over covers the number
abbrev pub covers : RangeInclusive ℕ → ℕ → Bool
covers range c = not (range_inclusive_exhausted range) && (nat_le (range_inclusive_start range) c && nat_le c (range_inclusive_end range))
