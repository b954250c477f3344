use Rattle.std.proofs.Common.{rules}
use Rattle.collate_records.proofs.changes.are_said_alike.Goals as goal

pub returns : goal.returns
returns c = (
  λ is. record { range = search rules; digit = search rules; recorded = c.are_recorded_alike.ensures.0 is },
  λ same. c.are_recorded_alike.ensures.1 same.recorded,
)
