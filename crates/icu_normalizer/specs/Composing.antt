-- Composing a starter with what stands after it.
use Rattle.std.specs.Prelude.{◌≡◌, ℕ, ◌<◌, ◌≤◌, ◌==◌, ◌||◌, ltb, cond, List, ◌++◌, length, Option, Some, None}
use Rattle.std.specs.List.{list_all}
use Rattle.icu_normalizer_core.specs.Canonical.{Canonical, composed}

-- what a starter and c compose to: nothing may stand between them but marks of classes below c's
abbrev pub composed_with : Canonical → ℕ → List ℕ → ℕ → Option ℕ
composed_with canonical starter between c =
    cond (list_all (λ m. ltb (canonical.class m) (canonical.class c)) between) (canonical.pair starter c) None

-- of these marks the highest class is `highest`, which is 0 where there is none
abbrev pub AreUpTo : (ℕ → ℕ) → List ℕ → ℕ → Type 0
AreUpTo class marks highest = (n : ℕ) → list_all (λ m. ltb (class m) n) marks ≡ ((highest == 0) || ltb highest n)

-- what composing fast rests on: a character below U+0300 is a starter and composes with none before it
abbrev pub IsComposable : Canonical → Type 0
IsComposable canonical =
    ((a b c : ℕ) → canonical.pair a b ≡ Some c → 0x300 ≤ b)
    × ((c : ℕ) → c < 0x300 → canonical.class c ≡ 0)

-- a text before these characters is composed apart from them
abbrev pub IsComposedApart : Canonical → List ℕ → Type 0
IsComposedApart canonical ys = (xs : List ℕ) → composed canonical (xs ++ ys) ≡ composed canonical xs ++ composed canonical ys

-- characters in two parts that are composed apart: the first are a cluster, and `form` is its composed list
pub record IsCluster (canonical : Canonical) (text form rest : List ℕ) : Type 0 where
  pub cluster : List ℕ
  pub some : 0 < length cluster
  pub whole : text ≡ cluster ++ rest
  pub composes : form ≡ composed canonical cluster
  pub apart : IsComposedApart canonical rest
