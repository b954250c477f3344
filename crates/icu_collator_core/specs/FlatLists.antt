-- Lists of elements in an array.
use Rattle.std.specs.Prelude.{ℕ, List}

-- the elements of 64 bits that stand in it
pub record FlatList : Type 0 where
  pub items : List ℕ
