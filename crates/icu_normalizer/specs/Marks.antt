-- Characters in the order of their classes.
use Rattle.std.specs.Prelude.{ℕ, Bool, not, ltb, ◌==◌, ◌&&◌, ◌||◌, List, [], ◌∷◌}

-- each is a starter, or of no class below that of the one before it, and the first of none below `before`; the last is
-- of class `last`
abbrev pub stands_to : (ℕ → ℕ) → ℕ → ℕ → List ℕ → Bool
stands_to class before last [] = before == last
stands_to class before last (c ∷ cs) = ((class c == 0) || not (ltb (class c) before)) && stands_to class (class c) last cs
