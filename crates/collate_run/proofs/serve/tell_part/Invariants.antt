use Rattle.std.proofs.Common.{◌≡◌, ℕ, List, ◌++◌, length}
use Rattle.std.specs.Io.KnownBytes.{Appends}
use Rattle.collate_run.proofs.serve.tell_part.Given as goal

abbrev pub invariant-writes : goal.invariant-writes
invariant-writes g l =
    (sent : List ℕ) × (l.part ≡ sent ++ l.rest) × Appends (g.E.Write.contents l.fn.errors) (g.E.Write.contents l.errors) sent

abbrev pub decreases-writes : goal.decreases-writes
decreases-writes g l = length l.rest
