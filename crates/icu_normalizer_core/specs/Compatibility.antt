-- Compatibility data: canonical data with the full lists that canonical and compatibility mappings leave together.
use Rattle.std.specs.Prelude.{◌≡◌, ◌≢◌, ℕ, ◌<◌, ◌≤◌, cond, ltb, List, [], ◌∷◌, ◌++◌, length, flat_map, All, Contains, Option, Some, None, IfSome}
use Rattle.std.specs.Char.{IsScalar}
use Rattle.icu_normalizer_core.specs.BuiltIn.{built_in_compatibility_step}
use Rattle.icu_normalizer_core.specs.Canonical.{Canonical, IsFree}
use Rattle.icu_normalizer_core.specs.CanonicalLists.{CanonicalLists, canonical_of}
use Rattle.icu_normalizer_core.specs.CanonicalWords.{built_in_full}
use Rattle.icu_normalizer_core.specs.Words.{WordLists, full_in}

-- the canonical classes, mappings and pairs, with the full lists of compatibility words; its decomposed and composed lists are NFKD and NFKC
abbrev pub compatibility_of : CanonicalLists → WordLists → Canonical
compatibility_of lists words = record {
  class = (canonical_of lists).class;
  step = (canonical_of lists).step;
  full = full_in words;
  pair = (canonical_of lists).pair;
}

-- no mapping is built in of the character, neither a canonical nor a compatibility one
abbrev pub IsUnbound : ℕ → Type 0
IsUnbound c = IsFree c × (built_in_compatibility_step c ≡ None)

-- the full list that is fixed for a character: by a built-in mapping, or itself below U+00A0
unfoldable pub fixed_list : ℕ → Option (List ℕ)
fixed_list c =
    let low = cond (ltb c 0xa0) (Some (c ∷ [])) (built_in_compatibility_step c)
    in elim (built_in_full c) [ Some list ↦ Some list | None ↦ low ]

-- What compatibility data promise beside canonical data.
pub record IsCompatibility (canonical compatibility : Canonical) : Type 0 where
  -- classes, mappings and pairs are the canonical ones
  pub class : (c : ℕ) → compatibility.class c ≡ canonical.class c
  pub step : (c : ℕ) → compatibility.step c ≡ canonical.step c
  pub pair : (a b : ℕ) → compatibility.pair a b ≡ canonical.pair a b
  -- a full list has one to eight characters, and each is its own full list
  pub nonempty : (c : ℕ) → IsScalar c → 1 ≤ length (compatibility.full c)
  pub bounded : (c : ℕ) → IsScalar c → length (compatibility.full c) ≤ 8
  pub scalars : (c : ℕ) → IsScalar c → All IsScalar (compatibility.full c)
  pub own : (c d : ℕ) → IsScalar c → Contains (compatibility.full c) d → compatibility.full d ≡ d ∷ []
  -- it begins with a starter, unless a mapping is built in or the character is its own full list
  pub begins : (c d : ℕ) (ds : List ℕ) → IsScalar c → IsUnbound c → compatibility.full c ≢ c ∷ [] → compatibility.full c ≡ d ∷ ds → canonical.class d ≡ 0
  -- what is fixed
  pub fixed : (c : ℕ) → IsScalar c → IfSome (fixed_list c) (λ list. compatibility.full c ≡ list)
  pub low : (c : ℕ) → c < 0xa0 → compatibility.full c ≡ c ∷ []
  -- it is the full lists of what canonical mappings leave, one after another; so that of a composed character is those of its pair
  pub lists : (c : ℕ) → IsScalar c → compatibility.full c ≡ flat_map compatibility.full (canonical.full c)
  pub pairs : (a b z : ℕ) → compatibility.pair a b ≡ Some z → compatibility.full z ≡ compatibility.full a ++ compatibility.full b
