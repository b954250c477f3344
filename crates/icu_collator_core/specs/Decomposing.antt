-- A decomposed list that is being made: what stands before an index is in order, and after it stand marks whose order is open.
use Rattle.std.specs.Prelude.{◌≡◌, ℕ, ◌≤◌, true, List, ◌++◌, length, take, drop}
use Rattle.std.specs.List.{list_all}
use lib.Utf8.{scalars}
use Rattle.icu_normalizer_core.specs.Canonical.{marks_in_order}
use Rattle.icu_normalizer_core.specs.Marks.{is_mark}

-- the whole list in order, where these characters come after it
abbrev pub ordered_with : (ℕ → ℕ) → List ℕ → ℕ → List ℕ → List ℕ
ordered_with class list ready rest = take ready list ++ marks_in_order class (drop ready list ++ rest)

-- from an index on a list has marks alone
pub record HasMarksFrom (class : ℕ → ℕ) (list : List ℕ) (ready : ℕ) : Type 0 where
  pub within : ready ≤ length list
  pub marks : list_all (is_mark class) (drop ready list) ≡ true

-- these characters were appended, and what stands before another index is in order
pub record Appends (class : ℕ → ℕ) (old : List ℕ) (was : ℕ) (read new : List ℕ) (ready : ℕ) : Type 0 where
  pub at : (rest : List ℕ) → ordered_with class old was (read ++ rest) ≡ ordered_with class new ready rest
  pub marks_from : HasMarksFrom class new ready
  pub characters : scalars old ≡ true → scalars new ≡ true
