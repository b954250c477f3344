-- When two sets of canonical data say the same of every character.
use Rattle.std.specs.Prelude.{◌≡◌, ℕ}
use Rattle.std.specs.Char.{IsScalar}
use Rattle.icu_normalizer_core.specs.Canonical.{Canonical}

-- canonical data that give each scalar value one class and one full list
pub record AreSameCanonical (a b : Canonical) : Type 0 where
  pub class : (c : ℕ) → IsScalar c → a.class c ≡ b.class c
  pub full : (c : ℕ) → IsScalar c → a.full c ≡ b.full c

-- data that compose two scalar values alike, too
pub record AreSameComposing (a b : Canonical) : Type 0 where
  pub same : AreSameCanonical a b
  pub pair : (x y : ℕ) → IsScalar x → IsScalar y → a.pair x y ≡ b.pair x y
