-- what a list of lines is to its callers
use Rattle.std.specs.Prelude.{List}
use Rattle.collate_sort.specs.Orders.{Line, LineRule}

-- lines by a rule, as they stand
pub record Listing : Type 0 where
  pub rule : LineRule
  pub lines : List Line
