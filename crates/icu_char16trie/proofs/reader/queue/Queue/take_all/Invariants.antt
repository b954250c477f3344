use Rattle.std.proofs.Common.{length}
use Rattle.icu_char16trie.specs.UnitReadingOrder.{jobs_left, pairs_read}
use Rattle.icu_char16trie.proofs.Reading.QueueLemmas.{IsOnWay}
use Rattle.icu_char16trie.proofs.Reading.ProgressLemmas.{work}
use Rattle.icu_char16trie.proofs.reader.queue.Queue.take_all.Given as goal

abbrev pub invariant-loop-task : goal.invariant-loop-task
invariant-loop-task l = IsOnWay l.units l.limit (jobs_left l.fn.self) (pairs_read l.fn.self) (jobs_left l.self) (pairs_read l.self)

abbrev pub decreases-loop-task : goal.decreases-loop-task
decreases-loop-task l = work (length l.units) (jobs_left l.self)
