use Rattle.std.proofs.Common.{rules}
use Rattle.collate_records.proofs.changes.are_settings_equal.Goals as goal

pub returns : goal.returns
returns c = (
  λ is. record { values = search rules; compressible = c.compress_alike.ensures.0 c.if-not-compress_alike.false; reordered = c.reorder_alike.ensures.0 is },
  λ same. c.reorder_alike.ensures.1 same.reordered,
)
