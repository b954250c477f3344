-- What making a normal form rests on. Canonical data and compatibility data both keep it.
use Rattle.std.specs.Prelude.{◌≡◌, ℕ, ◌<◌, ◌≤◌, ◌⊎◌, List, [], ◌∷◌, ◌++◌, length, All, Contains, Some}
use Rattle.std.specs.Char.{IsScalar}
use Rattle.icu_normalizer_core.specs.Canonical.{Canonical}
use Rattle.icu_normalizer_core.specs.Compatibility.{IsCompatibility}

pub record IsForming (said : Canonical) : Type 0 where
  -- a character below U+0300 is a starter, and its full list begins with one; one below U+00A0 stands for itself
  pub starters : (c : ℕ) → c < 0x300 → said.class c ≡ 0
  pub begins : (c d : ℕ) (ds : List ℕ) → c < 0x300 → said.full c ≡ d ∷ ds → said.class d ≡ 0
  pub low : (c : ℕ) → c < 0xa0 → said.full c ≡ c ∷ []
  -- a full list has one to eight characters, and each is its own full list
  pub bounded : (c : ℕ) → IsScalar c → length (said.full c) ≤ 8
  pub nonempty : (c : ℕ) → IsScalar c → 1 ≤ length (said.full c)
  pub scalars : (c : ℕ) → IsScalar c → All IsScalar (said.full c)
  pub own : (c d : ℕ) → IsScalar c → Contains (said.full c) d → said.full d ≡ d ∷ []
  -- the full list of a composed character is those of its pair, and the second of a pair is not below U+0300
  pub pairs : (a b z : ℕ) → said.pair a b ≡ Some z → said.full z ≡ said.full a ++ said.full b
  pub parts : (a b z : ℕ) → said.pair a b ≡ Some z → IsScalar a × IsScalar b × IsScalar z
  pub seconds : (a b z : ℕ) → said.pair a b ≡ Some z → 0x300 ≤ b

-- characters below the bound are starters that stand for themselves
pub record AreLowBelow (bound : ℕ) (said : Canonical) : Type 0 where
  pub within : bound ≤ 0x300
  pub itself : (c : ℕ) → c < bound → said.full c ≡ c ∷ []

-- what is said is what canonical data say, or compatibility data over them
abbrev pub IsSaidOver : Canonical → Canonical → Type 0
IsSaidOver canonical said = (said ≡ canonical) ⊎ IsCompatibility canonical said
