-- What a column holds of a line: some of its fields. Where blanks separate, a field is blanks and what stands after them up to
-- the next; where a byte does, what stands between two of these, and the first and the last field are what stands outside.
use Rattle.std.specs.Prelude.{◌==◌, ◌||◌, ℕ, zero, suc, ◌+◌, ◌-◌, Bool, List, Option, Some, None, drop, length, not, take}
use Rattle.std.specs.List.{prefix_len}
use Rattle.collate_merge.specs.declared.column.Column.{Column}
use Rattle.collate_merge.specs.declared.column.Column.TheVariants.{Fields, Line}
use Rattle.collate_merge.specs.declared.column.Separator.{Separator}
use Rattle.collate_merge.specs.declared.column.Separator.TheVariants.{Blanks, Byte}

-- a space, a tab or a line feed
abbrev pub is_blank : ℕ → Bool
is_blank byte = byte == 32 || byte == 9 || byte == 10

-- how many bytes the first field of a line has
abbrev pub field_len : Separator → List ℕ → ℕ
field_len Blanks line = let blanks = prefix_len is_blank line in blanks + prefix_len (λ byte. not (is_blank byte)) (drop blanks line)
field_len (Byte separator) line = prefix_len (λ byte. not (byte == separator)) line

-- a line after its first field, and after the byte that ends it
abbrev pub behind_field : Separator → List ℕ → List ℕ
behind_field Blanks line = drop (field_len Blanks line) line
behind_field (Byte separator) line = drop (field_len (Byte separator) line + 1) line

-- a line after its first so many fields
unfoldable pub behind_fields : Separator → ℕ → List ℕ → List ℕ
behind_fields separator zero line = line
behind_fields separator (suc n) line = behind_fields separator n (behind_field separator line)

-- where the first so many fields of a line end: where the last of them does
abbrev pub fields_end : Separator → ℕ → List ℕ → ℕ
fields_end separator zero line = 0
fields_end separator (suc n) line = let last = behind_fields separator n line in (length line - length last) + field_len separator last

-- so many fields of a line, or all of it
abbrev pub first_fields : Separator → Option ℕ → List ℕ → List ℕ
first_fields separator None line = line
first_fields separator (Some count) line = take (fields_end separator count line) line

-- what a column holds of a line
abbrev pub column_of : Column → List ℕ → List ℕ
column_of Line line = line
column_of (Fields separator before count) line = first_fields separator count (behind_fields separator before line)
