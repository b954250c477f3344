-- A records file, byte by byte: its first fault, by its lines and what they say. Lines count from 0 here.
use Rattle.std.specs.Prelude.{◌≡◌, ℕ, ◌+◌, ◌<◌, ◌⊎◌, List, Some, Result, MatchResult, slice_get}
use Rattle.collate_lines.specs.declared.rule.Rule.{Rule}
use Rattle.collate_lines.specs.declared.rule.Rule.TheVariants.{Grammar, V14}
use Rattle.collate_lines.specs.declared.rule.RecordsError.{RecordsError}
use Rattle.collate_lines.specs.declared.rule.RecordsError.TheVariants.{Fault, Memory}
use Rattle.collate_lines.specs.Record.{Record}
use Rattle.collate_lines.specs.declared.limits.Limits.{Limits}
use Rattle.collate_lines.specs.Limits.{standard}
use Rattle.collate_lines.specs.Lines.{IsOutside, PassesSize, lines_of, numbers_of, records_of}
use Rattle.collate_rules.specs.Rules.{OffendsWithin, rank}

-- ## Within limits

-- line i says a record that offends against a rule
abbrev pub OffendsIn : Limits → Rule → List ℕ → ℕ → Type 0
OffendsIn limits rule file i =
    (j : ℕ) × (slice_get (numbers_of file) j ≡ Some i) × OffendsWithin limits rule (records_of file) j

-- line i breaks a rule
abbrev pub Breaks : Limits → Rule → List ℕ → ℕ → Type 0
Breaks limits Grammar file i = IsOutside (lines_of file) i ⊎ PassesSize limits.bytes file i
Breaks limits V14 file i = (PassesSize limits.bytes file i → ⊥) × OffendsIn limits V14 file i
Breaks limits rule file i = OffendsIn limits rule file i

-- a breach that comes before another: of a rule of a lower rank, or of the same rank in a lesser line
abbrev pub IsEarlier : Rule → ℕ → Rule → ℕ → Type 0
IsEarlier rule i other j = (rank rule < rank other) ⊎ ((rank rule ≡ rank other) × (i < j))

-- no line breaks a rule
abbrev pub IsAcceptedWithin : Limits → List ℕ → Type 0
IsAcceptedWithin limits file = (rule : Rule) (i : ℕ) → Breaks limits rule file i → ⊥

-- line i breaks a rule, and no breach comes before that one
pub record IsFirstFaultWithin (limits : Limits) (file : List ℕ) (rule : Rule) (i : ℕ) : Type 0 where
  pub breaks : Breaks limits rule file i
  pub first : (other : Rule) (j : ℕ) → IsEarlier other j rule i → Breaks limits other file j → ⊥

-- an error names the first fault of a file, its line counted from 1, or says that memory ran out
abbrev pub RefusesWithin : Limits → List ℕ → RecordsError → Type 0
RefusesWithin limits file (Fault fault) = (i : ℕ) × (fault.line ≡ i + 1) × IsFirstFaultWithin limits file fault.rule i
RefusesWithin limits file Memory = Unit {0}

-- what the lines of an accepted file say, and the limits within which it was read
pub record FileRecords : Type 0 where
  pub limits : Limits
  pub lines : List Record

-- these bytes were read within limits: the records of an accepted file, or the first fault of any other
abbrev pub IsReadWithin : Limits → List ℕ → Result FileRecords RecordsError → Type 0
IsReadWithin limits file result =
    MatchResult result
    (λ records. IsAcceptedWithin limits file × (records ≡ record { limits = limits; lines = records_of file }))
    (RefusesWithin limits file)

-- ## Within the standard limits

abbrev pub IsAccepted : List ℕ → Type 0
IsAccepted file = IsAcceptedWithin standard file

abbrev pub IsFirstFault : List ℕ → Rule → ℕ → Type 0
IsFirstFault file rule i = IsFirstFaultWithin standard file rule i

abbrev pub Refuses : List ℕ → RecordsError → Type 0
Refuses file error = RefusesWithin standard file error

abbrev pub IsReadFrom : List ℕ → Result FileRecords RecordsError → Type 0
IsReadFrom file result = IsReadWithin standard file result
