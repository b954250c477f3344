-- bytes sent to a writer
use Rattle.std.specs.Prelude.{◌≡◌, ℕ, Option, Result, OnOk, List, [], ◌++◌}
use Rattle.std.specs.Io.KnownBytes.{Appends}

-- the writer got a first part of these bytes, all of them at `Ok`
pub record Sends {E : Type 0} (result : Result (Unit {0}) E) (old new : Option (List ℕ)) (bytes : List ℕ) : Type 0 where
  pub sent : List ℕ
  pub unsent : List ℕ
  pub bytes_are : bytes ≡ sent ++ unsent
  pub appends : Appends old new sent
  pub whole : OnOk result (unsent ≡ [])
