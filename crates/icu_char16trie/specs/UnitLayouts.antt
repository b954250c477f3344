-- How sorted keys and their values lie in units: a node is the units from its index on, so that it
-- means the same wherever it stands.
use Rattle.std.specs.Prelude.{◌≡◌, ℕ, ℤ, ◌+◌, ◌/◌, ◌<◌, ◌≤◌, List, [], ◌∷◌, ◌++◌, length, drop}
use Rattle.std.specs.Int.{cast_signed, w32}
use Rattle.icu_char16trie.specs.UnitPairs.{prefixed, spread}
use Rattle.icu_char16trie.specs.UnitNumberForms.{number_form, intermediate_form, delta_form}

-- what units spell: pairs, at a node or after its type, or groups of a branch whose units go from a
-- low bound to below a high one
pub data LaidPart : Type 0 where
  node : List (List ℕ × ℤ) → LaidPart
  follows : ℕ → List (List ℕ × ℤ) → LaidPart
  within : ℕ → ℕ → List (ℕ × List (List ℕ × ℤ)) → LaidPart

-- the units begin with what spells the part
pub data Lays : List ℕ → LaidPart → Type 0 where
  final : (number : ℕ) (units : List ℕ) → Lays (number_form 0x8000 number ++ units) (node (([], cast_signed w32 number) ∷ []))
  valued : (kind number : ℕ) (units : List ℕ) (pairs : List (List ℕ × ℤ)) → kind < 0x40 → Lays units (follows kind pairs)
      → Lays (intermediate_form kind number ++ units) (node (([], cast_signed w32 number) ∷ pairs))
  bare : (kind : ℕ) (units : List ℕ) (pairs : List (List ℕ × ℤ)) → kind < 0x40 → Lays units (follows kind pairs) → Lays (kind ∷ units) (node pairs)
  run : (run units : List ℕ) (pairs : List (List ℕ × ℤ)) → 0 < length run → length run ≤ 16 → Lays units (node pairs)
      → Lays (run ++ units) (follows (0x2f + length run) (prefixed run pairs))
  few : (kind : ℕ) (units : List ℕ) (groups : List (ℕ × List (List ℕ × ℤ))) → 0 < kind → kind < 0x30 → length groups ≡ kind + 1
      → Lays units (within 0 0x10000 groups) → Lays units (follows kind (spread groups))
  many : (last : ℕ) (units : List ℕ) (groups : List (ℕ × List (List ℕ × ℤ))) → length groups ≡ last + 1
      → Lays units (within 0 0x10000 groups) → Lays (last ∷ units) (follows 0 (spread groups))
  last : (low high unit : ℕ) (units : List ℕ) (pairs : List (List ℕ × ℤ)) → low ≤ unit → unit < high → Lays units (node pairs)
      → Lays (unit ∷ units) (within low high ((unit, pairs) ∷ []))
  value : (low high unit number : ℕ) (units : List ℕ) (groups : List (ℕ × List (List ℕ × ℤ))) → low ≤ unit → unit < high
      → 0 < length groups → length groups < 5 → Lays units (within (unit + 1) high groups)
      → Lays (unit ∷ number_form 0x8000 number ++ units) (within low high ((unit, ([], cast_signed w32 number) ∷ []) ∷ groups))
  jump : (low high unit distance : ℕ) (units : List ℕ) (pairs : List (List ℕ × ℤ)) (groups : List (ℕ × List (List ℕ × ℤ)))
      → low ≤ unit → unit < high → 0 < length groups → length groups < 5 → distance < length units
      → Lays (drop distance units) (node pairs) → Lays units (within (unit + 1) high groups)
      → Lays (unit ∷ number_form 0 distance ++ units) (within low high ((unit, pairs) ∷ groups))
  halves : (low high middle distance : ℕ) (units : List ℕ) (lower upper : List (ℕ × List (List ℕ × ℤ))) → low < middle → middle < high
      → 5 < length lower + length upper → length lower ≡ (length lower + length upper) / 2 → distance < length units
      → Lays (drop distance units) (within low middle lower) → Lays units (within middle high upper)
      → Lays (middle ∷ delta_form distance ++ units) (within low high (lower ++ upper))
