-- lines with what of each is compared and its key: how they stand in order, which of them are the first of equal ones, and where they leave the order
use Rattle.std.specs.Prelude.{◌≡◌, ℕ, ◌+◌, ◌<◌, Bool, true, false, List, [], ◌∷◌, filter, length, not, slice_index_or}
use Rattle.std.specs.Cmp.Lexicographic.{slice_cmp}
use Rattle.std.specs.List.{AllAdjacentBelow}
use Rattle.std.specs.Ordering.{nat_cmp}
use Rattle.std.specs.declared.cmp.Ordering.{Ordering}
use Rattle.collate_lists.specs.Names.{is_equal, is_greater, is_less}
use Rattle.collate_keyed_lines.specs.declared.direction.Direction.{Direction}
use Rattle.collate_keyed_lines.specs.declared.direction.Direction.TheVariants.{Ascending, Descending}

-- a line, what of it is compared, and the key of that, each given by its bytes
pub record KeyedLine : Type 0 where
  pub line : List ℕ
  pub text : List ℕ
  pub key : List ℕ

-- how two values compare where the greater stands first
abbrev pub turned : {A : Type 0} → Direction → (A → A → Ordering) → A → A → Ordering
turned Ascending order x y = order x y
turned Descending order x y = order y x

-- lines compare as their keys do
abbrev pub key_order : KeyedLine → KeyedLine → Ordering
key_order a b = slice_cmp nat_cmp a.key b.key

-- of equal values the first: those that no value before them equals
unfoldable pub first_of_equals : {A : Type 0} → (A → A → Ordering) → List A → List A
first_of_equals order [] = []
first_of_equals order (x ∷ later) = x ∷ filter (λ y. not (is_equal (order x y))) (first_of_equals order later)

-- whether a value is equal to one that is kept
abbrev pub is_same : {A : Type 0} → (A → A → Ordering) → A → A → Bool
is_same order x kept = is_equal (order x kept)

-- whether a value may stand after another, by how that compares with it: if it isn't below, or, where no two may be equal, if it
-- is above
abbrev pub may_follow : Bool → Ordering → Bool
may_follow true answer = is_less answer
may_follow false answer = not (is_greater answer)

-- of the first so many values each may stand after the one before it
abbrev pub AreInOrder : {A : Type 0} → Bool → (A → A → Ordering) → List A → ℕ → Type 0
AreInOrder unique order xs = AllAdjacentBelow (λ x y. may_follow unique (order x y) ≡ true) xs

-- the value at an index is the first that may not stand after the one before it
pub record IsFirstUnordered {A : Type 0} (unique : Bool) (order : A → A → Ordering) (xs : List A) (index : ℕ) : Type 0 where
  pub behind : 0 < index
  pub within : index < length xs
  pub before : AreInOrder unique order xs index
  pub here : (before : ℕ) (d : A) → before + 1 ≡ index → may_follow unique (order (slice_index_or xs before d) (slice_index_or xs index d)) ≡ false
