-- Where a text can be cut so that nothing composes across the cut, and characters that composing leaves alone (UAX 15).
use Rattle.std.specs.Prelude.{◌≡◌, ℕ, List, [], ◌∷◌, None}
use Rattle.icu_normalizer_core.specs.Canonical.{Canonical, composed}

-- Nothing before the character composes with it: its full list begins with a starter that is no pair's second.
abbrev pub HasBoundaryBefore : Canonical → ℕ → Type 0
HasBoundaryBefore canonical c = (d : ℕ) × (ds : List ℕ) × (canonical.full c ≡ d ∷ ds) × (canonical.class d ≡ 0) × ((a : ℕ) → canonical.pair a d ≡ None)

-- such a character that is its own composed list
abbrev pub IsSteady : Canonical → ℕ → Type 0
IsSteady canonical c = HasBoundaryBefore canonical c × (composed canonical (c ∷ []) ≡ c ∷ [])
