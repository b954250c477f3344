-- The bytes of a key while it is written.
use Rattle.std.specs.Prelude.{ℕ, List}

pub record KeyItems : Type 0 where
  pub items : List ℕ
