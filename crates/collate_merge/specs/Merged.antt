-- lists merged, of each no more than what stands in order
use Rattle.std.specs.Prelude.{◌≡◌, Bool, true, false, cond, List, [], ◌∷◌, flat_map, ⊤}
use Rattle.std.specs.declared.cmp.Ordering.{Ordering}
use Rattle.collate_keyed_lines.specs.KeyedLines.{first_of_equals}
use Rattle.collate_lists.specs.Names.{in_order, is_greater}

-- of values after another those before the first that is below the one before it
unfoldable pub ordered_behind : {A : Type 0} → (A → A → Ordering) → A → List A → List A
ordered_behind order x [] = []
ordered_behind order x (y ∷ later) = cond (is_greater (order x y)) [] (y ∷ ordered_behind order y later)

-- of values those before the first that is below the one before it
abbrev pub ordered_part : {A : Type 0} → (A → A → Ordering) → List A → List A
ordered_part order [] = []
ordered_part order (x ∷ later) = x ∷ ordered_behind order x later

-- values in order, equal ones as they stood, or of equal ones the first alone
abbrev pub put_in_order : {A : Type 0} → Bool → (A → A → Ordering) → List A → List A
put_in_order true order xs = first_of_equals order (in_order order xs)
put_in_order false order xs = in_order order xs

-- lists merged: the values of all in order, equal ones by their lists
abbrev pub merged : {A : Type 0} → Bool → (A → A → Ordering) → List (List A) → List A
merged unique order parts = put_in_order unique order (flat_map (λ part. part) parts)

-- lists merged, of each its ordered part
abbrev pub ordered_parts_merged : {A : Type 0} → Bool → (A → A → Ordering) → List (List A) → List A
ordered_parts_merged unique order parts = put_in_order unique order (flat_map (ordered_part order) parts)

-- values begin with none that is below x
abbrev pub StartsUpto : {A : Type 0} → (A → A → Ordering) → A → List A → Type 0
StartsUpto order x [] = ⊤
StartsUpto order x (y ∷ later) = is_greater (order x y) ≡ false

-- values begin with none but one that x is below
abbrev pub StartsAbove : {A : Type 0} → (A → A → Ordering) → A → List A → Type 0
StartsAbove order x [] = ⊤
StartsAbove order x (y ∷ later) = is_greater (order y x) ≡ true
