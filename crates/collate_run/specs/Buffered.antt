-- what a run does that takes its lines from the reader's buffer and sends replies together
use Rattle.std.specs.Prelude.{◌≡◌, ℕ, ◌+◌, ◌<◌, ◌≤◌, ◌⊎◌, Bool, true, false, Option, Result, Err, OnOk, List, [], ◌++◌, length, take, All, MatchResult}
use Rattle.std.specs.Io.KnownBytes.{Appends, Consumes}
use Rattle.collate_index.specs.Catalogue.{Catalogue}
use Rattle.collate_run.specs.Reading.{AreWhole, IsUnended}
use Rattle.collate_run.specs.Replies.{Replied, behind, ended}
use Rattle.collate_run.specs.Runs.{IsWithin, input_limit}
use Rattle.collate_run.specs.declared.run.RunFault.{RunFault}
use Rattle.collate_run.specs.declared.run.RunFault.TheVariants.{Read, Write}

-- Bytes came after those that waited: the writer got a first part of them all, and at `Ok` the rest waits.
pub record Gathers {E : Type 0} (result : Result (Unit {0}) E) (old new : Option (List ℕ)) (waited waits bytes : List ℕ) : Type 0 where
  pub sent : List ℕ
  pub unsent : List ℕ
  pub bytes_are : waited ++ bytes ≡ sent ++ unsent
  pub appends : Appends old new sent
  pub rest : OnOk result (unsent ≡ waits)

-- a line that is whole at the front of these bytes, within the limit, and has no record line after it
pub record IsReadyLine (line bytes : List ℕ) : Type 0 where
  pub unended : IsUnended line
  pub short : IsWithin line
  pub alone : behind line ≡ 0
  pub within : length line < length bytes
  pub front : take (length line + 1) bytes ≡ ended line

-- these bytes are whole lines, and they got this text
pub record AnswersLines (old new : Catalogue) (bytes text : List ℕ) : Type 0 where
  pub lines : List (List ℕ)
  pub whole : AreWhole lines bytes
  pub short : All IsWithin lines
  pub replied : Replied old lines text new

-- a call that failed for the writer
abbrev pub is_write_fault : {T : Type 0} → Result T RunFault → Bool
is_write_fault (Err Write) = true
is_write_fault _ = false

-- Whole lines were read and answered, and the writer got a first part of the text, all of it but at `Write`. The counts are of the
-- bytes before and after.
pub record TakesReady (result : Result (Unit {0}) RunFault) (old new : Catalogue) (reader_old reader_new writer_old writer_new : Option (List ℕ)) (before after : ℕ) : Type 0 where
  pub taken : List ℕ
  pub text : List ℕ
  pub unsent : List ℕ
  pub sent : List ℕ
  pub answers : AnswersLines old new taken text
  pub consumes : Consumes reader_old reader_new taken
  pub appends : Appends writer_old writer_new sent
  pub text_is : text ≡ sent ++ unsent
  pub counted : after ≡ before + length taken
  pub within : after ≤ input_limit
  pub ends : MatchResult result (λ _. unsent ≡ []) (λ fault. (fault ≡ Write) ⊎ ((fault ≡ Read) × (unsent ≡ [])))
