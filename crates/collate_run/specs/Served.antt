-- what the program does, but for reading its words and FILE
use Rattle.std.specs.Prelude.{◌≡◌, ℕ, ◌+◌, ◌⊎◌, true, Bool, Option, Some, Result, Ok, Err, OnOk, List, [], ◌++◌, codes, take, IfOk, IfSome, MatchOption, MatchResult}
use denote.Bor.{Bor}
use Rattle.std.specs.Io.KnownBytes.{Appends, Keeps}
use Rattle.collate_records.specs.Files.{FileRecords, IsReadWithin}
use Rattle.collate_lines.specs.Limits.{standard}
use Rattle.collate_lines.specs.declared.limits.Limits.{Limits}
use Rattle.collate_lines.specs.Rule.{fault_text}
use Rattle.collate_lines.specs.declared.rule.RecordsError.{RecordsError}
use Rattle.collate_lines.specs.declared.rule.RecordsError.TheVariants.{Fault, Memory as NoMemory}
use Rattle.collate_index.specs.Catalogue.{Catalogue, opened}
use Rattle.collate_run.specs.Runs.{Ran}
use Rattle.collate_choice.specs.Choices.{IsChoice}
use Rattle.collate_choice.specs.declared.Choice.{Choice}
use Rattle.collate_run.specs.declared.run.RunFault.{RunFault}
use Rattle.collate_run.specs.declared.run.RunFault.TheVariants.{Memory, Read, Write, LineTooLong, InputTooLong, CutReload}
use Rattle.collate_run.specs.declared.serve.FileFault.{FileFault}
use Rattle.collate_run.specs.declared.serve.FileFault.TheVariants.{Unreadable, Memory as NoRoom}

-- the line that asks for other words
abbrev pub usage_line : List ℕ
usage_line = codes "usage: collate FILE [OPTION=VALUE]..\n"

-- the line of a file that wasn't read
abbrev pub file_line : List ℕ → FileFault → List ℕ
file_line path Unreadable = codes "collate: cannot read " ++ path ++ codes "\n"
file_line path NoRoom = codes "collate: memory\n"

-- the line of records that were refused
abbrev pub records_line : RecordsError → List ℕ
records_line (Fault fault) = codes "collate: refused " ++ fault_text fault.line fault.rule ++ codes "\n"
records_line NoMemory = codes "collate: memory\n"

-- the line of a run that ended by a fault
abbrev pub run_line : RunFault → List ℕ
run_line Memory = codes "collate: memory\n"
run_line Read = codes "collate: read\n"
run_line Write = codes "collate: write\n"
run_line LineTooLong = codes "collate: line too long\n"
run_line InputTooLong = codes "collate: input too long\n"
run_line CutReload = codes "collate: reload cut\n"

-- what a writer of errors got of this text: all of it, or a first part where the writer stopped taking
pub record Tells (old new : Option (List ℕ)) (text : List ℕ) : Type 0 where
  pub told : List ℕ
  pub untold : List ℕ
  pub text_is : text ≡ told ++ untold
  pub appends : Appends old new told

-- The program stopped before its run: its status, and the text for the writer of errors. Nothing was
-- read, nothing was written.
pub record Stops (wanted : ℕ) (text : List ℕ) (status : ℕ) (reader_old reader_new writer_old writer_new errors_old errors_new : Option (List ℕ)) : Type 0 where
  pub status_is : status ≡ wanted
  pub reader : Keeps reader_old reader_new
  pub writer : Keeps writer_old writer_new
  pub tells : Tells errors_old errors_new text

-- the status and the text of a run
abbrev pub run_status : Result (Unit {0}) RunFault → ℕ
run_status (Ok _) = 0
run_status (Err _) = 1

abbrev pub run_text : Result (Unit {0}) RunFault → List ℕ
run_text (Ok _) = []
run_text (Err fault) = run_line fault

-- The program ran: its status and the text for the writer of errors are those of the run's result.
pub record Runs (start : Catalogue) (status : ℕ) (reader_old reader_new writer_old writer_new errors_old errors_new : Option (List ℕ)) : Type 0 where
  pub result : Result (Unit {0}) RunFault
  pub ran : Ran start result reader_old reader_new writer_old writer_new
  pub status_is : status ≡ run_status result
  pub tells : Tells errors_old errors_new (run_text result)

-- What a run is begun with: the words that were given, and the records of FILE, read within limits.
pub record OpensFile (limits : Limits) (choice : Option (Bor Choice)) (file : Result (Bor (List ℕ)) FileFault) (given : Bor Choice) (records : FileRecords) : Type 0 where
  pub bytes : Bor (List ℕ)
  pub choice_is : choice ≡ Some given
  pub file_is : file ≡ Ok bytes
  pub read_is : IsReadWithin limits bytes.now (Ok records)

module _ (limits : Limits) (status : ℕ) (reader_old reader_new writer_old writer_new errors_old errors_new : Option (List ℕ)) where
  -- what is served of a file of records, read within limits: a run over them, or their refusal
  pub record ServesFile (choice : Choice) (bytes : List ℕ) : Type 0 where
    pub read : Result FileRecords RecordsError
    pub read_is : IsReadWithin limits bytes read
    pub served : MatchResult read
        (λ records. Runs (opened records choice.prefs choice.options) status reader_old reader_new writer_old writer_new errors_old errors_new)
        (λ refusal. Stops 1 (records_line refusal) status reader_old reader_new writer_old writer_new errors_old errors_new)

  -- what is served of the words and of FILE: the usage line, or what is wrong with FILE, or with its records, or the run
  abbrev pub ServesWithin : Option (Bor Choice) → Result (Bor (List ℕ)) FileFault → Type 0
  ServesWithin choice file = MatchOption choice
      (Stops 2 usage_line status reader_old reader_new writer_old writer_new errors_old errors_new)
      (λ given. MatchResult file
      (λ bytes. ServesFile given.now bytes.now)
      (λ fault. Stops 1 (file_line given.now.file.now fault) status reader_old reader_new writer_old writer_new errors_old errors_new))

  -- what is served of words, by what each path reads as: the usage line, or what is wrong with FILE, or with its records, or
  -- the run
  abbrev pub ServesWords : List (List ℕ) → (List ℕ → Result (List ℕ) FileFault → Type 0) → Type 0
  ServesWords words Reads =
      (((choice : Choice) → ¬ IsChoice words choice)
      × Stops 2 usage_line status reader_old reader_new writer_old writer_new errors_old errors_new)
      ⊎ ((choice : Choice) × IsChoice words choice × (file : Result (List ℕ) FileFault) × Reads choice.file.now file
      × MatchResult file
      (ServesFile choice)
      (λ fault. Stops 1 (file_line choice.file.now fault) status reader_old reader_new writer_old writer_new errors_old errors_new))

-- what is served within the standard limits
abbrev pub Serves : ℕ → Option (List ℕ) → Option (List ℕ) → Option (List ℕ) → Option (List ℕ) → Option (List ℕ) → Option (List ℕ)
    → Option (Bor Choice) → Result (Bor (List ℕ)) FileFault → Type 0
Serves = ServesWithin standard

-- What is read of FILE: one byte more than the limit at most, and only where the run can have its input; or a fault, which is
-- `Unreadable` where it can't be opened.
abbrev pub IsContents : {F E : Type 0} → (F → Option (List ℕ)) → ℕ → Bool → Result F E → Result (List ℕ) FileFault → Type 0
IsContents remaining limit has_input (Err e) file = file ≡ Err Unreadable
IsContents remaining limit has_input (Ok held) file =
    IfOk file (λ bytes. IfSome (remaining held) (λ known. bytes ≡ take (limit + 1) known)) × OnOk file (has_input ≡ true)
