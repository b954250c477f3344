-- what a run does, by the bytes that it read and those that it wrote
use Rattle.std.specs.Prelude.{◌≡◌, ◌==◌, ℕ, ◌+◌, ◌<◌, ◌≤◌, ◌⊎◌, if◌then◌else◌, Option, Result, Ok, Err, List, [], ◌∷◌, ◌++◌, length, take, All}
use Rattle.std.specs.Io.KnownBytes.{Appends, Consumes, IsAtEnd}
use Rattle.collate_index.specs.Catalogue.{Catalogue}
use Rattle.collate_run.specs.Replies.{AreReplies, behind}
use Rattle.collate_run.specs.declared.run.RunFault.{RunFault}
use Rattle.collate_run.specs.declared.run.RunFault.TheVariants.{Write, LineTooLong, InputTooLong, CutReload}

-- a byte put in front of the first line
abbrev pub onto : ℕ → List (List ℕ) → List (List ℕ)
onto b [] = (b ∷ []) ∷ []
onto b (line ∷ lines) = (b ∷ line) ∷ lines

-- a byte put in front of the first line, if there is one
abbrev pub onto_whole : ℕ → List (List ℕ) → List (List ℕ)
onto_whole b [] = []
onto_whole b (line ∷ lines) = (b ∷ line) ∷ lines

-- the lines of these bytes, without their LF; the last line may lack it
unfoldable pub lines_of : List ℕ → List (List ℕ)
lines_of [] = []
lines_of (b ∷ bs) = let later = lines_of bs in if b == 10 then [] ∷ later else onto b later

-- the lines of these bytes that end in LF
unfoldable pub whole_lines : List ℕ → List (List ℕ)
whole_lines [] = []
whole_lines (b ∷ bs) = let later = whole_lines bs in if b == 10 then [] ∷ later else onto_whole b later

-- how many bytes a line may have
abbrev pub line_limit : ℕ
line_limit = 65536

-- how many bytes a run reads
abbrev pub input_limit : ℕ
input_limit = 4294967295

-- a line within the limit
abbrev pub IsWithin : List ℕ → Type 0
IsWithin line = length line ≤ line_limit

-- the bytes end in a line that is already one byte past the limit, and the lines before it are these
pub record EndsTooLong (taken : List ℕ) (lines : List (List ℕ)) : Type 0 where
  pub front : List ℕ
  pub line : List ℕ
  pub taken_is : taken ≡ front ++ line
  pub too_long : length line ≡ line_limit + 1
  pub unended : whole_lines line ≡ []
  pub whole : lines_of front ≡ lines

-- The lines that a run read whole, of its bytes (taken). The byte past the input limit is no part of a line.
abbrev pub lines_read : Result (Unit {0}) RunFault → ℕ → List ℕ → List (List ℕ)
lines_read (Ok _) limit taken = lines_of taken
lines_read (Err Write) limit taken = lines_of taken
lines_read (Err CutReload) limit taken = lines_of taken
lines_read (Err InputTooLong) limit taken = whole_lines (take limit taken)
lines_read (Err _) limit taken = whole_lines taken

-- The line limit, of the bytes that a run read (taken): all lines are within it, also one that is cut off, and a run ends
-- by LineTooLong at the first byte past it.
abbrev pub KeepsLineLimit : Result (Unit {0}) RunFault → ℕ → List ℕ → Type 0
KeepsLineLimit (Err LineTooLong) limit taken = All IsWithin (whole_lines taken) × EndsTooLong taken (whole_lines taken)
KeepsLineLimit (Err InputTooLong) limit taken = All IsWithin (lines_of (take limit taken))
KeepsLineLimit _ limit taken = All IsWithin (lines_of taken)

-- The input limit, of the bytes that a run read (taken): they are within it, and a run ends by InputTooLong at the first
-- byte past it.
abbrev pub KeepsInputLimit : Result (Unit {0}) RunFault → ℕ → List ℕ → Type 0
KeepsInputLimit (Err InputTooLong) limit taken = length taken ≡ limit + 1
KeepsInputLimit _ limit taken = length taken ≤ limit

-- a `reload` line with fewer record lines after it than it asks for
abbrev pub IsCutReload : List (List ℕ) → Type 0
IsCutReload [] = ⊥
IsCutReload (line ∷ records) = length records < behind line

-- The lines that a run read last and left without an answer, by the fault that ended it: none, or those of a reload that is
-- cut off. At CutReload it is those, and nothing is left to read; Write comes while an answer is written, and leaves none.
abbrev pub IsUnanswered : RunFault → Option (List ℕ) → List (List ℕ) → Type 0
IsUnanswered Write left rest = ⊥
IsUnanswered CutReload left rest = IsCutReload rest × IsAtEnd left
IsUnanswered _ left rest = (rest ≡ []) ⊎ IsCutReload rest

-- What a run that read these lines and wrote those bytes (out) has done; left is what the reader has left.
abbrev pub Does : Catalogue → Result (Unit {0}) RunFault → Option (List ℕ) → List (List ℕ) → List ℕ → Type 0
Does start (Ok _) left lines out = AreReplies start lines out × IsAtEnd left
Does start (Err Write) left lines out = (unsent : List ℕ) × AreReplies start lines (out ++ unsent)
Does start (Err fault) left lines out = (front : List (List ℕ)) × (rest : List (List ℕ)) × (lines ≡ front ++ rest) × AreReplies start front out × IsUnanswered fault left rest

-- a run's result, with what it took from the reader and gave to the writer
pub record Ran (start : Catalogue) (result : Result (Unit {0}) RunFault) (reader_old reader_new writer_old writer_new : Option (List ℕ)) : Type 0 where
  pub taken : List ℕ
  pub out : List ℕ
  pub consumes : Consumes reader_old reader_new taken
  pub appends : Appends writer_old writer_new out
  pub does : Does start result reader_new (lines_read result input_limit taken) out
  pub line_limit_kept : KeepsLineLimit result input_limit taken
  pub input_limit_kept : KeepsInputLimit result input_limit taken
