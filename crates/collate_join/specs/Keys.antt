-- What lines of records files are for, as it stands in them, and what the lines of a tailoring leave out.
use Rattle.std.specs.Prelude.{ℕ, ◌+◌, ◌-◌, Bool, false, ◌||◌, ◌==◌, if◌then◌else◌, List, ◌++◌, take, drop, Option, Some, None, bytes_eq, codes}
use Rattle.std.specs.Bool.{nat_eq}
use Rattle.std.specs.List.{list_any, position_or_len, starts_with}
use Rattle.std.specs.Option.{is_some}
use Rattle.collate_lines.specs.Grammar.{is_remark, record_of}
use Rattle.collate_join.specs.declared.keys.Part.{Part}
use Rattle.collate_join.specs.declared.keys.Part.TheVariants.{Key, Weighed, LeftOut}

-- where a byte stands first, or the length
abbrev pub end_of : ℕ → List ℕ → ℕ
end_of byte bytes = position_or_len (λ b. b == byte) bytes

abbrev pub begins : List ℕ → List ℕ → Bool
begins line word = starts_with nat_eq line word

-- where the second space stands, or after the end
abbrev pub second_space : List ℕ → ℕ
second_space line = end_of 32 line + 1 + end_of 32 (drop (end_of 32 line + 1) line)

-- The key of a line, what it is for, by its kind: of weights prefix and text, before the semicolon; of a class, a mapping, a
-- digit or a setting the field after the kind. An empty line, a comment and a range have none.
abbrev pub key_of : List ℕ → Option (List ℕ)
key_of line =
    if begins line (codes "w ") || begins line (codes "t ") then Some (take (end_of 59 line) line)
    else (if is_remark line || begins line (codes "range ") then None
    else Some (take (second_space line) line))

-- the prefix and the text that a line of the root weighs: what stands between the w and ` ;`
abbrev pub weighed_by : List ℕ → Option (List ℕ)
weighed_by line = if begins line (codes "w ") then Some (take (end_of 59 (drop 1 line) - 1) (drop 1 line)) else None

-- what a line of a tailoring leaves out: what stands after `# without`
abbrev pub left_out_by : List ℕ → Option (List ℕ)
left_out_by line = if begins line (codes "# without") then Some (drop 9 line) else None

-- one of these three
abbrev pub part_of : Part → List ℕ → Option (List ℕ)
part_of Key = key_of
part_of Weighed = weighed_by
part_of LeftOut = left_out_by

-- whether this is the part
abbrev pub is_it : List ℕ → Option (List ℕ) → Bool
is_it bytes None = false
is_it bytes (Some part) = bytes_eq bytes part

-- whether a line has this part
abbrev pub has_part : Part → List (List ℕ) → List ℕ → Bool
has_part part lines bytes = list_any (λ line. is_it bytes (part_of part line)) lines

-- whether a line has the part that there is
abbrev pub has_any : Part → List (List ℕ) → Option (List ℕ) → Bool
has_any part lines None = false
has_any part lines (Some bytes) = has_part part lines bytes

-- whether what stands after `# without` is a prefix and a text, as in a line of weights
abbrev pub is_key : List ℕ → Bool
is_key part = is_some (record_of (codes "w" ++ part ++ codes " ;"))
