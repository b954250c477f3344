-- The set operations, by membership.
use Rattle.std.specs.Prelude.{◌≡◌, ℕ, ◌+◌, ◌<◌, ◌≤◌, Bool, true, false, not, ◌&&◌, ◌||◌, List, [], ◌∷◌, Option, Some, None, min, ◌⊎◌}
use Rattle.icu_collections_sets.specs.CodePoints.{Rises, is_in, holds}
use Rattle.icu_collections_sets.specs.declared.codepointinvlist.operation.Operation.{Operation}
use Rattle.icu_collections_sets.specs.declared.codepointinvlist.operation.Operation.TheVariants.{Union, Difference, Intersection, SymmetricDifference}

-- whether two answers differ
abbrev pub differ : Bool → Bool → Bool
differ true b = not b
differ false b = b

-- whether a code point is in the result, by whether it is in each of the two sets
abbrev pub operated : Operation → Bool → Bool → Bool
operated Union a b = a || b
operated Difference a b = a && not b
operated Intersection a b = a && b
operated SymmetricDifference a b = differ a b

-- the list holds what the operation makes of two sets
abbrev pub IsOperated : Operation → (ℕ → Bool) → (ℕ → Bool) → List ℕ → Type 0
IsOperated operation first second list = (c : ℕ) → holds list c ≡ operated operation (first c) (second c)

-- the list holds what one of two sets holds, what the first does and the second doesn't, what both do, and what one does and the other doesn't
abbrev pub IsUnion : (ℕ → Bool) → (ℕ → Bool) → List ℕ → Type 0
IsUnion first second list = (c : ℕ) → holds list c ≡ (first c || second c)

abbrev pub IsDifference : (ℕ → Bool) → (ℕ → Bool) → List ℕ → Type 0
IsDifference first second list = (c : ℕ) → holds list c ≡ (first c && not (second c))

abbrev pub IsIntersection : (ℕ → Bool) → (ℕ → Bool) → List ℕ → Type 0
IsIntersection first second list = (c : ℕ) → holds list c ≡ (first c && second c)

abbrev pub IsSymmetricDifference : (ℕ → Bool) → (ℕ → Bool) → List ℕ → Type 0
IsSymmetricDifference first second list = (c : ℕ) → holds list c ≡ differ (first c) (second c)

-- the lesser of two lists' first numbers
abbrev pub IsNextEdge : List ℕ → List ℕ → Option ℕ → Type 0
IsNextEdge [] [] r = r ≡ None
IsNextEdge (x ∷ xs) [] r = r ≡ Some x
IsNextEdge [] (y ∷ ys) r = r ≡ Some y
IsNextEdge (x ∷ xs) (y ∷ ys) r = r ≡ Some (min x y)

-- what is left of a list that rises from an edge on, once the edge is passed
pub record PassesEdge (rest : List ℕ) (inside : Bool) (edge : ℕ) (left : List ℕ) (now : Bool) : Type 0 where
  pub rises : Rises (edge + 1) left
  pub before : (c : ℕ) → c < edge → is_in inside rest c ≡ inside
  pub from_edge : (c : ℕ) → edge ≤ c → is_in inside rest c ≡ is_in now left c
  pub passed : ((left ≡ rest) × (now ≡ inside)) ⊎ ((rest ≡ edge ∷ left) × (now ≡ not inside))
