-- Records files, each written out as its lines, and what their bytes mean.
use Rattle.std.specs.Prelude.{ℕ, not, List, [], ◌∷◌, ◌++◌, flat_map, length, take, bytes_eq}
use Rattle.std.specs.List.{filter}
use Rattle.icu_collator_core.specs.Collation.{Collation}
use Rattle.collate_lines.specs.Lines.{records_of}
use Rattle.collate_rules.specs.Meaning.{collation_of}

-- the lines of a file, without their LFs
abbrev pub Lines : Type 0
Lines = List (List ℕ)

-- the bytes of a file of these lines, each with its LF
abbrev pub file : Lines → List ℕ
file lines = flat_map (λ line. line ++ 10 ∷ []) lines

-- what a file of these lines means
abbrev pub meant : Lines → Collation
meant lines = collation_of (records_of (file lines))

-- the lines but those that begin with these bytes
abbrev pub without : List ℕ → Lines → Lines
without beginning lines = filter (λ line. not (bytes_eq (take (length beginning) line) beginning)) lines
