-- a line, and a line with the record lines after it, as they are read
use Rattle.std.specs.Prelude.{◌≡◌, ◌≢◌, ℕ, Bool, true, false, ◌+◌, ◌<◌, ◌≤◌, MatchBool, ◌-◌, Option, None, Some, Result, Ok, Err, List, [], ◌∷◌, ◌++◌, length, flat_map, All, IfSome}
use Rattle.std.specs.Io.KnownBytes.{Consumes, Keeps, IsAtEnd}
use Rattle.collate_run.specs.Replies.{AreFirst, behind, ended}
use Rattle.collate_run.specs.Runs.{IsUnanswered, IsWithin, KeepsInputLimit, KeepsLineLimit, line_limit, lines_of, lines_read, input_limit}
use Rattle.collate_run.specs.declared.run.Line.{Line}
use Rattle.collate_run.specs.declared.run.Request.{Request}
use Rattle.collate_run.specs.declared.run.RunFault.{RunFault}
use Rattle.collate_run.specs.declared.run.RunFault.TheVariants.{Read, Write, LineTooLong, InputTooLong, CutReload}

-- a byte was consumed, or the reader is at its end, or nothing happened
abbrev pub GivesByte : Option (List ℕ) → Option (List ℕ) → Result (Option ℕ) RunFault → Type 0
GivesByte old new (Ok None) = Keeps old new × IsAtEnd new
GivesByte old new (Ok (Some byte)) = Consumes old new (byte ∷ [])
GivesByte old new (Err _) = Keeps old new

-- no byte of a line is its LF
abbrev pub IsUnended : List ℕ → Type 0
IsUnended line = All (λ byte. byte ≢ 10) line

-- these bytes are a line with its LF, or without it if it is the last
abbrev pub SpellsLine : Line → Option (List ℕ) → List ℕ → Type 0
SpellsLine line left bytes = IsUnended line.bytes.items × MatchBool line.is_ended (bytes ≡ line.bytes.items ++ 10 ∷ []) ((bytes ≡ line.bytes.items) × (0 < length bytes) × IsAtEnd left)

-- what was read when no line came of it
abbrev pub CutsLine : RunFault → ℕ → List ℕ → Type 0
CutsLine LineTooLong count bytes = IsUnended bytes × (length bytes ≡ line_limit + 1) × (count + length bytes ≤ input_limit)
CutsLine InputTooLong count bytes = (line : List ℕ) × (last : ℕ) × IsUnended line × (bytes ≡ line ++ last ∷ []) × (count + length line ≡ input_limit) × (length line ≤ line_limit)
CutsLine Write count bytes = ⊥
CutsLine CutReload count bytes = ⊥
CutsLine _ count bytes = IsUnended bytes × (count + length bytes ≤ input_limit) × (length bytes ≤ line_limit)

-- what reading a line did: left is what the reader has left, and the counts are of the bytes before and after
abbrev pub ReadsLine : Result (Option Line) RunFault → Option (List ℕ) → ℕ → ℕ → List ℕ → Type 0
ReadsLine (Ok None) left before after bytes = (bytes ≡ []) × IsAtEnd left
ReadsLine (Ok (Some line)) left before after bytes = SpellsLine line left bytes × (after ≡ before + length bytes) × (after ≤ input_limit) × (length line.bytes.items ≤ line_limit)
ReadsLine (Err fault) left before after bytes = CutsLine fault before bytes

-- lines, each with its LF
abbrev pub spelled : List (List ℕ) → List ℕ
spelled lines = flat_map ended lines

-- these bytes are whole lines
abbrev pub AreWhole : List (List ℕ) → List ℕ → Type 0
AreWhole lines bytes = All IsUnended lines × (bytes ≡ spelled lines)

-- These bytes are a line and so many record lines after it. The last of them may lack its LF if nothing is left to read. The
-- counts are of the bytes before and after.
pub record SpellsRequest (request : Request) (many : ℕ) (left : Option (List ℕ)) (before after : ℕ) (bytes : List ℕ) : Type 0 where
  pub records : List (List ℕ)
  pub all_there : length records ≡ many
  pub lines_are : lines_of bytes ≡ request.line.items ∷ records
  pub whole : MatchBool request.is_ended (AreWhole (request.line.items ∷ records) bytes) (IsAtEnd left)
  pub kept : IfSome request.records (λ kept. AreFirst request.limit kept.items (spelled records))
  pub short : All IsWithin (request.line.items ∷ records)
  pub counted : after ≡ before + length bytes
  pub within : after ≤ input_limit

-- what was read when no whole request came of it, where at most `room` bytes could be read
pub record CutsRequest (fault : RunFault) (left : Option (List ℕ)) (room : ℕ) (bytes : List ℕ) : Type 0 where
  pub unanswered : IsUnanswered fault left (lines_read (Err fault) room bytes)
  pub line_limit_kept : KeepsLineLimit (Err fault) room bytes
  pub input_limit_kept : KeepsInputLimit (Err fault) room bytes

-- what reading a request did: left is what the reader has left, and the counts are of the bytes before and after
abbrev pub ReadsRequest : Result (Option Request) RunFault → Option (List ℕ) → ℕ → ℕ → List ℕ → Type 0
ReadsRequest (Ok None) left before after bytes = (bytes ≡ []) × IsAtEnd left
ReadsRequest (Ok (Some request)) left before after bytes = SpellsRequest request (behind request.line.items) left before after bytes
ReadsRequest (Err fault) left before after bytes = CutsRequest fault left (input_limit - before) bytes

-- a call that failed for the reader
abbrev pub is_read_fault : {T : Type 0} → Result T RunFault → Bool
is_read_fault (Err Read) = true
is_read_fault _ = false
