-- Lists of characters that are read alike, though other characters stand before them.
use Rattle.std.specs.Prelude.{◌≡◌, ℕ, true, List, [], ◌∷◌}
use lib.Utf8.{scalars}
use Rattle.icu_collator_core.specs.Weights.{Weights}
use Rattle.icu_collator_core.specs.Elements.{Placed, placed_behind, prefix_match}
use Rattle.icu_collator_core.specs.ReadTexts.{characters_before, characters_behind}

-- the same characters, each after prefixes that give the same
abbrev pub AreAlike : Weights → List Placed → List Placed → Type 0
AreAlike weights [] [] = Unit {0}
AreAlike weights [] (q ∷ qs) = ⊥
AreAlike weights (p ∷ ps) [] = ⊥
AreAlike weights (p ∷ ps) (q ∷ qs) =
    (p.character ≡ q.character) × (prefix_match weights p ≡ prefix_match weights q) × AreAlike weights ps qs

-- which record of a character after a prefix counts at an index of a list is the same whatever stands before the list
abbrev pub IsToldAt : Weights → List ℕ → ℕ → ℕ → Type 0
IsToldAt weights list index c =
    (further : List ℕ) → scalars further ≡ true
    → prefix_match weights (record { character = c; before = characters_behind further list index })
    ≡ prefix_match weights (record { character = c; before = characters_before list index })

-- a list is read alike whatever stands before it
abbrev pub IsToldAlone : Weights → List ℕ → Type 0
IsToldAlone weights list = (before : List ℕ) → scalars before ≡ true → AreAlike weights (placed_behind before list) (placed_behind [] list)
