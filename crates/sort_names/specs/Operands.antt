-- what operands hold, by what opens them
use Rattle.std.specs.Prelude.{◌≡◌, ℕ, Option, Result, Ok, IfSome, List}
use denote.Ref.{Bor}
use Rattle.std.specs.Fn.{FnReturnsAt, Shared}

-- what is opened by a path holds this text, where it says what it holds
pub record Holds {F E O : Type 0} (remaining : F → Option (List ℕ)) (opening : Shared O (Bor (List ℕ) × Unit {0}) (Result F E)) (opener : O) (path text : List ℕ) : Type 0 where
  pub file : F
  pub opened : FnReturnsAt opening opener path (Ok file)
  pub holds : IfSome (remaining file) (λ held. text ≡ held)
