-- The parts that a set has, and the lines of the root that a join has so far.
use Rattle.std.specs.Prelude.{◌≡◌, ℕ, Bool, List, [], ◌∷◌, ◌++◌, filter, flat_map}
use Rattle.std.specs.Ordering.{nat_cmp}
use Rattle.std.specs.Cmp.Lexicographic.{slice_cmp}
use Rattle.std.specs.BTreeSet.{BTreeSet, contains_by}
use denote.Bor.{Bor}
use Rattle.collate_join.specs.declared.keys.Part.{Part}
use Rattle.collate_join.specs.declared.Joined.{Joined}
use Rattle.collate_join.specs.Join.{numbers_from}
use Rattle.collate_join.specs.Keys.{has_part}

-- whether a set has these bytes
abbrev pub has : BTreeSet (Bor (List ℕ)) → List ℕ → Bool
has set bytes = contains_by (λ key. slice_cmp nat_cmp bytes key.now) set

-- the set has what lines have as this part, and no more
abbrev pub HasParts : BTreeSet (Bor (List ℕ)) → Part → List (List ℕ) → Type 0
HasParts set part lines = (bytes : List ℕ) → has set bytes ≡ has_part part lines bytes

abbrev pub with_lf : List ℕ → List ℕ
with_lf line = line ++ 10 ∷ []

-- of these lines the join has those that pass, with an LF each, and their numbers
abbrev pub HasKept : Joined → (List ℕ → Bool) → List (List ℕ) → Type 0
HasKept join passes lines = (join.bytes.items ≡ flat_map with_lf (filter passes lines)) × (join.kept.items ≡ numbers_from 1 passes lines)
