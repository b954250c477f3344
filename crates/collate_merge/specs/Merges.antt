-- what a merge of readers is asked for, and what it writes
use Rattle.std.specs.Prelude.{◌≡◌, ℕ, ◌-◌, ◌<◌, Bool, false, Option, Some, List, [], ◌∷◌, ◌++◌, flat_map, length, map, slice_index_or, ⊤}
use Rattle.std.specs.Io.KnownBytes.{Appends}
use Rattle.std.specs.declared.cmp.Ordering.{Ordering}
use Rattle.collate_merge.specs.LineParts.{part_of}
use Rattle.collate_merge.specs.declared.part.LinePart.{LinePart}
use Rattle.collate_keyed_lines.specs.KeyedLines.{AreInOrder, IsFirstUnordered}
use Rattle.collate_sort.specs.Orders.{Line, LineRule, line_order}
use Rattle.collate_merge.specs.Lines.{lines_in}
use Rattle.collate_merge.specs.Merged.{merged, ordered_parts_merged}
use Rattle.collate_merge.specs.declared.errors.MergeError.{MergeError}
use Rattle.collate_merge.specs.declared.errors.MergeError.TheVariants.{Read, Unordered}

-- by which rule lines compare, what of them is compared, whether of equal ones the first alone is wanted, and what ends a line
pub record Merge : Type 0 where
  pub rule : LineRule
  pub part : LinePart
  pub unique : Bool
  pub separator : ℕ

-- what is asked for, of these
abbrev pub merge_of : LineRule → LinePart → Bool → ℕ → Merge
merge_of rule part unique separator = record { rule = rule; part = part; unique = unique; separator = separator }

-- a line, with what of it is compared
abbrev pub line_by : LinePart → List ℕ → Line
line_by part line = record { line = line; text = part_of part line }

-- how two lines compare
abbrev pub order_in : Merge → List ℕ → List ℕ → Ordering
order_in m a b = line_order m.rule (line_by m.part a) (line_by m.part b)

-- lines, what ends a line after each
abbrev pub text_of : ℕ → List (List ℕ) → List ℕ
text_of separator lines = flat_map (λ line. line ++ separator ∷ []) lines

-- the lines of each of several files
abbrev pub parts_of : Merge → List (List ℕ) → List (List (List ℕ))
parts_of m files = map (lines_in m.separator) files

-- all lines of files, in order
abbrev pub merged_text : Merge → List (List ℕ) → List ℕ
merged_text m files = text_of m.separator (merged m.unique (order_in m) (parts_of m files))

-- of each file the lines before the first that is below the one before it, in order
abbrev pub ordered_text : Merge → List (List ℕ) → List ℕ
ordered_text m files = text_of m.separator (ordered_parts_merged m.unique (order_in m) (parts_of m files))

-- no line of a file is below the one before it
abbrev pub IsOrdered : Merge → List ℕ → Type 0
IsOrdered m file = AreInOrder false (order_in m) (lines_in m.separator file) (length (lines_in m.separator file))

-- the bytes that readers have left are known: a list for each
abbrev pub HaveLeft : {R : Type 0} → (R → Option (List ℕ)) → List R → List (List ℕ) → Type 0
HaveLeft remaining readers files = map remaining readers ≡ map (λ file. Some file) files

-- a writer got a first part of these bytes
pub record GotFirstPart (old new : Option (List ℕ)) (bytes : List ℕ) : Type 0 where
  pub written : List ℕ
  pub unwritten : List ℕ
  pub bytes_are : bytes ≡ written ++ unwritten
  pub appends : Appends old new written

-- which reader is meant, and that the line, counted from 1, is its first that is below the one before it
abbrev pub IsTrueOf : Merge → List (List ℕ) → MergeError → Type 0
IsTrueOf m files (Unordered reader line) = (reader < length files) × IsFirstUnordered false (order_in m) (lines_in m.separator (slice_index_or files reader [])) (line - 1)
IsTrueOf m files (Read reader error) = reader < length files
IsTrueOf m files _ = ⊤
