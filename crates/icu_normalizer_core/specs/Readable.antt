-- What reading the data of a normal form fast rests on.
use Rattle.std.specs.Prelude.{◌≡◌, ℕ, ◌<◌, ◌≤◌, [], ◌∷◌, length}
use Rattle.std.specs.Char.{IsScalar}
use Rattle.icu_normalizer_core.specs.Canonical.{Canonical}

-- full lists have at most eight characters, and a character below U+00A0 is a starter that stands for itself
abbrev pub IsReadable : Canonical → Type 0
IsReadable canonical =
    ((c : ℕ) → IsScalar c → length (canonical.full c) ≤ 8)
    × ((c : ℕ) → c < 0xa0 → canonical.full c ≡ c ∷ [])
    × ((c : ℕ) → c < 0xa0 → canonical.class c ≡ 0)
