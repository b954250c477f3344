-- bytes sent to a writer
use Rattle.std.specs.Prelude.{◌≡◌, ℕ, Option, Result, OnOk, List, [], ◌++◌, ⊤}
use Rattle.std.specs.Io.KnownBytes.{Appends}
use Rattle.collate_merge.specs.declared.errors.MergeError.{MergeError}
use Rattle.collate_merge.specs.declared.errors.MergeError.TheVariants.{Memory, Write}

-- a writer got a first part of these bytes, and all of them at `Ok`
pub record Sends {T E : Type 0} (result : Result T E) (old new : Option (List ℕ)) (bytes : List ℕ) : Type 0 where
  pub sent : List ℕ
  pub unsent : List ℕ
  pub bytes_are : bytes ≡ sent ++ unsent
  pub appends : Appends old new sent
  pub whole : OnOk result (unsent ≡ [])

-- a fault of writing a line
abbrev pub IsOfWriting : MergeError → Type 0
IsOfWriting (Write error) = ⊤
IsOfWriting Memory = ⊤
IsOfWriting _ = ⊥
