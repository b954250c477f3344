-- what a list of names is: the names with their keys, as they arrived; and how they stand in order
use Rattle.std.specs.Prelude.{◌≢◌, ℕ, List, [], ◌∷◌, map, filter, not, bytes_eq, Option, Some, None}
use Rattle.std.specs.List.{AllPairs}
use Rattle.std.specs.Cmp.Lexicographic.{slice_cmp}
use Rattle.std.specs.Ordering.{nat_cmp}
use Rattle.std.specs.declared.cmp.Ordering.{Ordering}
use Rattle.collate_lists.specs.Names.{in_order}

-- a name with its key, each given by its bytes
pub record StoredName : Type 0 where
  pub key : List ℕ
  pub name : List ℕ

-- names compare as their keys do
abbrev pub key_order : StoredName → StoredName → Ordering
key_order a b = slice_cmp nat_cmp a.key b.key

-- names in order of their keys; those of one key stand as they arrived
abbrev pub sorted : List StoredName → List StoredName
sorted names = in_order key_order names

-- the names alone
abbrev pub names_of : List StoredName → List (List ℕ)
names_of names = map (λ e. e.name) names

-- the names but for one
abbrev pub without : List ℕ → List StoredName → List StoredName
without name names = filter (λ e. not (bytes_eq e.name name)) names

-- no name occurs twice
abbrev pub AreDistinct : List StoredName → Type 0
AreDistinct names = AllPairs (λ name other. name ≢ other) (names_of names)

-- a name with another key, if one is given
abbrev pub with_key : StoredName → Option (List ℕ) → StoredName
with_key stored None = stored
with_key stored (Some key) = record stored { key = key }

-- names with the keys that are given for them, in their order; past the last of these they keep their own
abbrev pub rekeyed : List (Option (List ℕ)) → List StoredName → List StoredName
rekeyed [] names = names
rekeyed (key ∷ keys) [] = []
rekeyed (key ∷ keys) (stored ∷ names) = with_key stored key ∷ rekeyed keys names
