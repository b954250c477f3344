-- what of a line is compared
use Rattle.std.specs.Prelude.{ℕ, List, if◌then◌else◌}
use Rattle.std.specs.Io.BufRead.{strip_last}
use Rattle.collate_merge.specs.Columns.{column_of}
use Rattle.collate_merge.specs.declared.part.LinePart.{LinePart}

-- a column of a line, or of the line without a CR at its end
abbrev pub part_of : LinePart → List ℕ → List ℕ
part_of part line = column_of part.column (if part.crlf then strip_last 13 line else line)
