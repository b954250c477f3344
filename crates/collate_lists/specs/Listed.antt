-- what a list of hashes is to its callers
use Rattle.std.specs.Prelude.{ℕ, List}

pub record Listed : Type 0 where
  -- under which seed they are
  pub seed : ℕ
  -- the hashes, 0 where one was taken out
  pub hashes : List ℕ
  -- how many more can be put in with no memory
  pub room : ℕ
