-- What the program does where FILE is put over a root: it serves the join of both, and tells a fault by the file that has its line.
use Rattle.std.specs.Prelude.{ℕ, Option, Result, List, ◌++◌, codes, MatchOption, MatchResult}
use denote.Bor.{Bor}
use Rattle.collate_join.specs.Join.{IsJoin, origin_of}
use Rattle.collate_join.specs.declared.Joined.{Joined}
use Rattle.collate_join.specs.declared.JoinError.{JoinError}
use Rattle.collate_join.specs.declared.JoinError.TheVariants.{NoSuchRecord, Memory as NoJoin}
use Rattle.collate_join.specs.declared.Origin.{Origin}
use Rattle.collate_join.specs.declared.Origin.TheVariants.{Root, Tailoring}
use Rattle.collate_records.specs.Files.{FileRecords, IsReadWithin}
use Rattle.collate_lines.specs.declared.limits.Limits.{Limits}
use Rattle.collate_lines.specs.Rule.{fault_text}
use Rattle.collate_lines.specs.declared.rule.Rule.{Rule}
use Rattle.collate_lines.specs.declared.rule.RecordsError.{RecordsError}
use Rattle.collate_lines.specs.declared.rule.RecordsError.TheVariants.{Fault, Memory as NoMemory}
use Rattle.std.specs.Fmt.{decimal}
use Rattle.collate_index.specs.Catalogue.{opened}
use Rattle.collate_choice.specs.declared.Choice.{Choice}
use Rattle.collate_run.specs.Served.{Runs, Stops, file_line, usage_line}
use Rattle.collate_run.specs.declared.serve.FileFault.{FileFault}

-- the line of a file that breaks a rule
abbrev pub place_line : ℕ → Rule → List ℕ → List ℕ
place_line n rule path = codes "collate: refused " ++ fault_text n rule ++ codes " " ++ path ++ codes "\n"

-- the same, by which of two files has the line
abbrev pub origin_line : List ℕ → List ℕ → Rule → Origin → List ℕ
origin_line root file rule (Root n) = place_line n rule root
origin_line root file rule (Tailoring n) = place_line n rule file

-- the line of records that were refused, by the file that has it
abbrev pub refusal_line : List ℕ → List ℕ → List ℕ → RecordsError → List ℕ
refusal_line kept root file (Fault fault) = origin_line root file fault.rule (origin_of kept fault.line)
refusal_line kept root file NoMemory = codes "collate: memory\n"

-- the line of a FILE that can't be put over the root
abbrev pub join_line : List ℕ → JoinError → List ℕ
join_line file (NoSuchRecord n) = codes "collate: refused " ++ decimal n ++ codes " without " ++ file ++ codes "\n"
join_line file NoJoin = codes "collate: memory\n"

module _ (limits : Limits) (status : ℕ) (reader_old reader_new writer_old writer_new errors_old errors_new : Option (List ℕ)) where
  -- what is served of a join: a run over its records, or their refusal
  pub record ServesJoined (choice : Choice) (root_path : List ℕ) (joined : Joined) : Type 0 where
    pub read : Result FileRecords RecordsError
    pub read_is : IsReadWithin limits joined.bytes.items read
    pub served : MatchResult read
        (λ records. Runs (opened records choice.prefs choice.options) status reader_old reader_new writer_old writer_new errors_old errors_new)
        (λ refusal. Stops 1 (refusal_line joined.kept.items root_path choice.file.now refusal) status reader_old reader_new writer_old writer_new errors_old errors_new)

  -- what is served of two files
  pub record ServesFiles (choice : Choice) (root_path root file : List ℕ) : Type 0 where
    pub join : Result Joined JoinError
    pub join_is : IsJoin root file join
    pub served : MatchResult join
        (ServesJoined choice root_path)
        (λ error. Stops 1 (join_line choice.file.now error) status reader_old reader_new writer_old writer_new errors_old errors_new)

  -- what is served of the words, of the root and of FILE: the usage line, or what is wrong with one of them, the root first
  abbrev pub ServesOver : Option (Bor Choice) → List ℕ → Result (Bor (List ℕ)) FileFault → Result (Bor (List ℕ)) FileFault → Type 0
  ServesOver choice root_path root file = MatchOption choice
      (Stops 2 usage_line status reader_old reader_new writer_old writer_new errors_old errors_new)
      (λ given. MatchResult root
      (λ held. MatchResult file
      (λ bytes. ServesFiles given.now root_path held.now bytes.now)
      (λ fault. Stops 1 (file_line given.now.file.now fault) status reader_old reader_new writer_old writer_new errors_old errors_new))
      (λ fault. Stops 1 (file_line root_path fault) status reader_old reader_new writer_old writer_new errors_old errors_new))
