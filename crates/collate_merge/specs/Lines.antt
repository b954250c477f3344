-- the lines of bytes, and what reading one does
use Rattle.std.specs.Prelude.{◌≡◌, ℕ, Bool, true, false, Option, Some, List, [], ◌∷◌, map}
use Rattle.bstr.specs.Records.{records, trim_record}
use Rattle.collate_merge.specs.declared.lines.LineReader.{LineReader}

-- the lines of bytes, each up to a separator, without it; a last line needs none
abbrev pub lines_in : ℕ → List ℕ → List (List ℕ)
lines_in separator bytes = map (trim_record separator) (records separator bytes)

-- the reader of a reader of lines
abbrev pub reader_inside : {R : Type 0} → LineReader R → R
reader_inside lines = lines.reader

-- what ends its lines
abbrev pub separator_of : {R : Type 0} → LineReader R → ℕ
separator_of lines = lines.separator

-- the first line of the bytes was read, and the others are left; or there was none
abbrev pub ReadsLine : ℕ → List ℕ → Bool → List ℕ → Option (List ℕ) → Type 0
ReadsLine separator bytes true line left = (rest : List ℕ) × (left ≡ Some rest) × (lines_in separator bytes ≡ line ∷ lines_in separator rest)
ReadsLine separator bytes false line left = lines_in separator bytes ≡ []
