-- How far a text is its own decomposed list.
use Rattle.std.specs.Prelude.{◌≡◌, ℕ, ◌≤◌, ◌⊎◌, List, [], ◌∷◌}
use Rattle.icu_normalizer_core.specs.Canonical.{Canonical, decomposed}
use Rattle.icu_normalizer.specs.FormCuts.{IsOwnForm}

-- the text is its own decomposed list
abbrev pub IsDecomposed : Canonical → List ℕ → Type 0
IsDecomposed canonical text = IsOwnForm (decomposed canonical) text

-- the character stands for itself, and if it is a mark, then none of a higher class is directly before it; the character before it has class `before`
abbrev pub IsInPlace : Canonical → ℕ → ℕ → Type 0
IsInPlace canonical before c = (canonical.full c ≡ c ∷ []) × ((canonical.class c ≡ 0) ⊎ (before ≤ canonical.class c))
