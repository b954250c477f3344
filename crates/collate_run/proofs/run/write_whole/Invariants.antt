use Rattle.std.proofs.Common.{◌≡◌, ℕ, List, ◌++◌, length}
use Rattle.std.specs.Io.KnownBytes.{Appends}
use Rattle.collate_run.specs.Watched.{watched_inner, watched_failed}
use Rattle.collate_run.proofs.run.write_whole.Given as goal

abbrev pub invariant-writes : goal.invariant-writes
invariant-writes g l =
    (watched_failed l.writer ≡ watched_failed l.fn.writer)
    × (sent : List ℕ)
    × (l.bytes ≡ sent ++ l.rest)
    × Appends (g.W.Write.contents (watched_inner l.fn.writer)) (g.W.Write.contents (watched_inner l.writer)) sent

abbrev pub decreases-writes : goal.decreases-writes
decreases-writes g l = length l.rest
