-- The lines of a records file, and what they say. Lines count from 0 here.
use Rattle.std.specs.Prelude.{◌≡◌, ℕ, ◌+◌, ◌<◌, ◌==◌, cond, List, [], ◌∷◌, map, filter, length, take, count_by, slice_index_or, Option, Some, None}
use Rattle.std.specs.Option.{unwrap_or}
use Rattle.std.specs.List.{slice_split}
use Rattle.std.specs.Borrow.{Bor}
use Rattle.collate_lines.specs.Record.{Record, nothing}
use Rattle.collate_lines.specs.Repeats.{says_something}
use Rattle.collate_lines.specs.Grammar.{record_of}

-- The lines of a file: the parts between its LFs. What stands after the last LF is a line too; where nothing stands there, it is
-- an empty one, and says nothing.
abbrev pub lines_of : List ℕ → List (List ℕ)
lines_of file = slice_split (λ b. b == 10) file

-- line i, or an empty one
abbrev pub line_at : List (List ℕ) → ℕ → List ℕ
line_at lines i = slice_index_or lines i []

-- the lines of what is left of a file, if anything is
abbrev pub lines_left : Option (Bor (List ℕ)) → List (List ℕ)
lines_left None = []
lines_left (Some rest) = lines_of rest.now

-- what a line says, and nothing if it isn't in the grammar
abbrev pub read_line : List ℕ → Record
read_line line = unwrap_or (record_of line) nothing

-- what lines say, one record a line
abbrev pub records_in : List (List ℕ) → List Record
records_in lines = map read_line lines

-- what the lines of a file say that say something, in their order
abbrev pub records_of : List ℕ → List Record
records_of file = filter says_something (records_in (lines_of file))

-- the numbers of those lines among all, counted from n
abbrev pub numbers_from : ℕ → List Record → List ℕ
numbers_from n [] = []
numbers_from n (r ∷ rs) = cond (says_something r) (n ∷ numbers_from (n + 1) rs) (numbers_from (n + 1) rs)

-- the number of the line of each record
abbrev pub numbers_of : List ℕ → List ℕ
numbers_of file = numbers_from 0 (records_in (lines_of file))

-- Line i holds the first byte past so many bytes: i LFs stand before that byte.
abbrev pub PassesSize : ℕ → List ℕ → ℕ → Type 0
PassesSize limit file i = (limit < length file) × (i ≡ count_by (λ b. b == 10) (take limit file))

-- line i isn't in the grammar
abbrev pub IsOutside : List (List ℕ) → ℕ → Type 0
IsOutside lines i = record_of (line_at lines i) ≡ None
