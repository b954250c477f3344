-- Canonical equivalence (UAX 15): texts that mapping steps and exchanges of marks carry into each other.
use Rattle.std.specs.Prelude.{◌≡◌, ℕ, ◌<◌, ◌≢◌, List, [], ◌∷◌, ◌++◌}
use Rattle.icu_normalizer_core.specs.Canonical.{Canonical}

-- The least equivalence under which a character may be mapped where it stands, and two marks may be exchanged that stand
-- side by side, are not mapped and have different classes.
pub data IsEquivalent (canonical : Canonical) : List ℕ → List ℕ → Type 0 where
  same : (xs : List ℕ) → IsEquivalent canonical xs xs
  turned : (xs ys : List ℕ) → IsEquivalent canonical xs ys → IsEquivalent canonical ys xs
  joined : (xs ys zs : List ℕ) → IsEquivalent canonical xs ys → IsEquivalent canonical ys zs → IsEquivalent canonical xs zs
  stepped : (front back : List ℕ) (c d : ℕ) (ds : List ℕ) → canonical.step c ≡ d ∷ ds
      → IsEquivalent canonical (front ++ c ∷ back) (front ++ ((d ∷ ds) ++ back))
  swapped : (front back : List ℕ) (c d : ℕ) → canonical.step c ≡ [] → canonical.step d ≡ []
      → 0 < canonical.class c → 0 < canonical.class d → canonical.class c ≢ canonical.class d
      → IsEquivalent canonical (front ++ c ∷ d ∷ back) (front ++ d ∷ c ∷ back)
