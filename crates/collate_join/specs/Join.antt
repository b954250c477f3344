-- A tailoring put over a root: the lines of both as those of one file. Lines count from 1 here, as those of faults do.
use Rattle.std.specs.Prelude.{◌≡◌, ℕ, ◌+◌, ◌-◌, ◌||◌, ◌&&◌, Bool, false, not, cond, ltb, if◌then◌else◌, List, [], ◌∷◌, ◌++◌, filter, length, slice_index, Option, Some, None, Result, Ok, Err}
use Rattle.std.specs.List.{position_from}
use Rattle.collate_lines.specs.Lines.{lines_of}
use Rattle.collate_join.specs.declared.keys.Part.TheVariants.{Key, Weighed, LeftOut}
use Rattle.collate_join.specs.declared.Origin.{Origin}
use Rattle.collate_join.specs.declared.Origin.TheVariants.{Root, Tailoring}
use Rattle.collate_join.specs.declared.Joined.{Joined}
use Rattle.collate_join.specs.declared.JoinError.{JoinError}
use Rattle.collate_join.specs.declared.JoinError.TheVariants.{NoSuchRecord, Memory}
use Rattle.collate_join.specs.Keys.{has_any, has_part, is_key, key_of, left_out_by, weighed_by}

-- A line of the root stays, unless the tailoring has a line of its key, or leaves out what it weighs.
abbrev pub stays : List (List ℕ) → List ℕ → Bool
stays tailoring line = not (has_any Key tailoring (key_of line) || has_any LeftOut tailoring (weighed_by line))

-- the lines of the root that stay, then those of the tailoring
abbrev pub joined : List (List ℕ) → List (List ℕ) → List (List ℕ)
joined root tailoring = filter (stays tailoring) root ++ tailoring

-- A line of the tailoring is at fault that leaves out what is no prefix and text, or what no line of the root weighs.
abbrev pub is_fault : List (List ℕ) → List ℕ → Bool
is_fault root line = elim (left_out_by line) [ None ↦ false | Some part ↦ not (is_key part && has_part Weighed root part) ]

-- the numbers of the lines that pass, counted from n
abbrev pub numbers_from : ℕ → (List ℕ → Bool) → List (List ℕ) → List ℕ
numbers_from n passes [] = []
numbers_from n passes (line ∷ lines) =
    cond (passes line) (n ∷ numbers_from (n + 1) passes lines) (numbers_from (n + 1) passes lines)

-- where line n of the join stands, if the lines of the root that stay have these numbers
abbrev pub origin_of : List ℕ → ℕ → Origin
origin_of kept n = if ltb (n - 1) (length kept) then Root (slice_index kept (n - 1)) else Tailoring (n - length kept)

-- the first line of the tailoring that is at fault
abbrev pub first_fault : List (List ℕ) → List (List ℕ) → Option ℕ
first_fault root tailoring = position_from (is_fault root) 1 tailoring

-- What putting a tailoring over a root answers: a file of the lines of the join, with where those of the root stand, if no line
-- is at fault; else the first that is. Memory may be refused.
abbrev pub IsJoin : List ℕ → List ℕ → Result Joined JoinError → Type 0
IsJoin root tailoring (Ok join) =
    (first_fault (lines_of root) (lines_of tailoring) ≡ None)
    × (lines_of join.bytes.items ≡ joined (lines_of root) (lines_of tailoring))
    × (join.kept.items ≡ numbers_from 1 (stays (lines_of tailoring)) (lines_of root))
IsJoin root tailoring (Err (NoSuchRecord line)) = first_fault (lines_of root) (lines_of tailoring) ≡ Some line
IsJoin root tailoring (Err Memory) = Unit {0}
