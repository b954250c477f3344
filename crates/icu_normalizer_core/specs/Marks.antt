-- Marks by their classes.
use Rattle.std.specs.Prelude.{ℕ, Bool, ◌&&◌, ltb}

-- a mark has a class other than 0
abbrev pub is_mark : (ℕ → ℕ) → ℕ → Bool
is_mark class c = ltb 0 (class c)

-- a class is that of a mark, and below the other
abbrev pub is_mark_below : ℕ → ℕ → Bool
is_mark_below class other = ltb 0 class && ltb class other
