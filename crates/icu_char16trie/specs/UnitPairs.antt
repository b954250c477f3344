-- Keys in units with their values, and groups of those that go on with the same unit.
use Rattle.std.specs.Prelude.{◌≡◌, ◌≢◌, ℕ, ℤ, ◌+◌, ◌*◌, ◌<◌, ◌≤◌, ◌⊎◌, List, [], ◌∷◌, ◌++◌, length, map, drop}
use Rattle.std.specs.Borrow.{Bor}
use Rattle.icu_char16trie.specs.declared.writer.group.Group.{Group}

-- the first units come before the second ones
abbrev pub Below : List ℕ → List ℕ → Type 0
Below units [] = ⊥
Below [] (other ∷ others) = Unit {0}
Below (unit ∷ units) (other ∷ others) = (unit < other) ⊎ ((unit ≡ other) × Below units others)

-- the key comes before each of these
abbrev pub ComesFirst : List ℕ → List (List ℕ × ℤ) → Type 0
ComesFirst key [] = Unit {0}
ComesFirst key (pair ∷ pairs) = Below key pair.0 × ComesFirst key pairs

-- each key comes before those after it
abbrev pub AreSorted : List (List ℕ × ℤ) → Type 0
AreSorted [] = Unit {0}
AreSorted (pair ∷ pairs) = ComesFirst pair.0 pairs × AreSorted pairs

-- no key is empty
abbrev pub HaveUnits : List (List ℕ × ℤ) → Type 0
HaveUnits [] = Unit {0}
HaveUnits (pair ∷ pairs) = (0 < length pair.0) × HaveUnits pairs

-- what is left of the keys after their first units, and the values
abbrev pub rests : ℕ → List (Bor (List ℕ) × ℤ) → List (List ℕ × ℤ)
rests depth pairs = map (λ pair. (drop depth pair.0.now, pair.1)) pairs

-- the pairs whose keys have the units in front
abbrev pub prefixed : List ℕ → List (List ℕ × ℤ) → List (List ℕ × ℤ)
prefixed units pairs = map (λ pair. (units ++ pair.0, pair.1)) pairs

-- the pairs of groups, each of a unit and what its keys go on with
abbrev pub spread : List (ℕ × List (List ℕ × ℤ)) → List (List ℕ × ℤ)
spread [] = []
spread (group ∷ groups) = prefixed (group.0 ∷ []) group.1 ++ spread groups

-- groups of sorted keys, whose units rise from a low bound to below a high one
abbrev pub AreGroups : ℕ → ℕ → List (ℕ × List (List ℕ × ℤ)) → Type 0
AreGroups low high [] = low ≤ high
AreGroups low high (group ∷ groups) =
    (low ≤ group.0) × (group.0 < high) × (0 < length group.1) × AreSorted group.1 × AreGroups (group.0 + 1) high groups

-- the units of groups, and what their keys go on with
abbrev pub parts : ℕ → List Group → List (ℕ × List (List ℕ × ℤ))
parts depth groups = map (λ group. (group.unit, rests (depth + 1) group.pairs.now)) groups

-- the key does not go on with the unit
abbrev pub GoesOnOther : ℕ → List ℕ → Type 0
GoesOnOther unit [] = Unit {0}
GoesOnOther unit (other ∷ others) = other ≢ unit

-- the first key, if there is one, does not go on with the unit
abbrev pub StartsOther : ℕ → List (List ℕ × ℤ) → Type 0
StartsOther unit [] = Unit {0}
StartsOther unit (pair ∷ pairs) = GoesOnOther unit pair.0

-- the first key, which is there, goes on with the unit
abbrev pub StartsWith : ℕ → List (List ℕ × ℤ) → Type 0
StartsWith unit [] = ⊥
StartsWith unit (pair ∷ pairs) = (rest : List ℕ) × (pair.0 ≡ unit ∷ rest)

-- the first key, if there is one, goes on
abbrev pub FirstGoesOn : List (List ℕ × ℤ) → Type 0
FirstGoesOn [] = Unit {0}
FirstGoesOn (pair ∷ pairs) = 0 < length pair.0

-- the first key, if there is one, ends
abbrev pub FirstEnds : List (List ℕ × ℤ) → Type 0
FirstEnds [] = Unit {0}
FirstEnds (pair ∷ pairs) = pair.0 ≡ []

-- the pair is among these
abbrev pub Has : List (List ℕ × ℤ) → List ℕ → ℤ → Type 0
Has [] key number = ⊥
Has (pair ∷ pairs) key number = ((pair.0 ≡ key) × (pair.1 ≡ number)) ⊎ Has pairs key number

-- a bound on the units that spell the pairs
abbrev pub room : List (List ℕ × ℤ) → ℕ
room [] = 0
room (pair ∷ pairs) = 10 * length pair.0 + 3 + room pairs

-- the second units end with the first ones
abbrev pub Extends : List ℕ → List ℕ → Type 0
Extends units longer = (front : List ℕ) × (longer ≡ front ++ units)
