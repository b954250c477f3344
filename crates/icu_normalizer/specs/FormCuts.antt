-- How far a text is its own normal form.
use Rattle.std.specs.Prelude.{◌≡◌, ℕ, ◌<◌, ◌≤◌, List, ◌∷◌, ◌++◌, length}
use Rattle.icu_normalizer_core.specs.Canonical.{Canonical, composed}

-- the text is its own form
abbrev pub IsOwnForm : (List ℕ → List ℕ) → List ℕ → Type 0
IsOwnForm form text = form text ≡ text

-- the text is its own composed list
abbrev pub IsComposed : Canonical → List ℕ → Type 0
IsComposed canonical text = IsOwnForm (composed canonical) text

-- the prefix holds all that stands before any character below the bound at or before the first index at which the text
-- and its form differ
abbrev pub ReachesBelow : (List ℕ → List ℕ) → ℕ → List ℕ → List ℕ → Type 0
ReachesBelow form bound text prefix =
    (agreed left others : List ℕ) (c : ℕ) → text ≡ agreed ++ c ∷ left → form text ≡ agreed ++ others → c < bound → length agreed ≤ length prefix
