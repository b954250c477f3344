-- what of values that come in order is written: all, or those that aren't equal to the last one that was
use Rattle.std.specs.Prelude.{Bool, true, false, cond, Option, None, Some, List, [], ◌∷◌}
use Rattle.std.specs.List.{dedup}
use Rattle.std.specs.declared.cmp.Ordering.{Ordering}
use Rattle.collate_keyed_lines.specs.KeyedLines.{is_same}
use Rattle.collate_lists.specs.Names.{is_equal}

-- of a value what is written after the last
abbrev pub written_of : {A : Type 0} → Bool → (A → A → Ordering) → Option A → A → List A
written_of false order last x = x ∷ []
written_of true order None x = x ∷ []
written_of true order (Some kept) x = cond (is_equal (order x kept)) [] (x ∷ [])

-- the last one that was written, once a value has come, where that matters
abbrev pub last_behind : {A : Type 0} → Bool → (A → A → Ordering) → Option A → A → Option A
last_behind false order last x = last
last_behind true order None x = Some x
last_behind true order (Some kept) x = cond (is_equal (order x kept)) (Some kept) (Some x)

-- of values those that aren't equal to the last one kept
unfoldable pub fresh_behind : {A : Type 0} → (A → A → Ordering) → A → List A → List A
fresh_behind order kept [] = []
fresh_behind order kept (x ∷ later) = cond (is_equal (order x kept)) (fresh_behind order kept later) (x ∷ fresh_behind order x later)

-- of values what is written after the last
abbrev pub all_written : {A : Type 0} → Bool → (A → A → Ordering) → Option A → List A → List A
all_written false order last xs = xs
all_written true order None xs = dedup (is_same order) xs
all_written true order (Some kept) xs = fresh_behind order kept xs
