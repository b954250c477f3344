use Rattle.std.proofs.Common.{length}
use Rattle.examples_uses.proofs.unit_tries.+value_from.Given as goal

abbrev pub decreases-value_from : goal.decreases-value_from
decreases-value_from l = length l.key.now
