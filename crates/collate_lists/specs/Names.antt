-- the names of an index: how they stand in order, which of them are equal, and which are between two
use Rattle.std.specs.Prelude.{ℕ, Bool, true, false, cond, not, ◌&&◌, List, [], ◌∷◌, filter}
use Rattle.std.specs.declared.cmp.Ordering.{Ordering}
use Rattle.std.specs.declared.cmp.Ordering.TheVariants.{Less, Equal, Greater}

-- a way to compare two texts, each given by its bytes
abbrev pub TextOrder : Type 0
TextOrder = List ℕ → List ℕ → Ordering

abbrev pub is_less : Ordering → Bool
is_less Less = true
is_less _ = false

abbrev pub is_greater : Ordering → Bool
is_greater Greater = true
is_greater _ = false

abbrev pub is_equal : Ordering → Bool
is_equal Equal = true
is_equal _ = false

-- an element put before the first of these that isn't below it: it came before them all, so equal ones stand after it
unfoldable pub placed_before : {A : Type 0} → (A → A → Ordering) → A → List A → List A
placed_before order x [] = x ∷ []
placed_before order x (other ∷ others) =
    let further = other ∷ placed_before order x others
    in cond (is_greater (order x other)) further (x ∷ other ∷ others)

-- elements, given as they arrived, sorted by the order; equal ones stand as they arrived
unfoldable pub in_order : {A : Type 0} → (A → A → Ordering) → List A → List A
in_order order [] = []
in_order order (x ∷ later) = placed_before order x (in_order order later)

-- the names that compare Equal to a name
abbrev pub equal_names : TextOrder → List ℕ → List (List ℕ) → List (List ℕ)
equal_names order name names = filter (λ other. is_equal (order other name)) names

-- the names that are neither below the first of two nor above the last
abbrev pub names_between : TextOrder → List ℕ → List ℕ → List (List ℕ) → List (List ℕ)
names_between order first last names = filter (λ other. not (is_less (order other first)) && not (is_greater (order other last))) names
