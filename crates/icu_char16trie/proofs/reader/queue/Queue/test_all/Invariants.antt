use Rattle.std.proofs.Common.{◌≡◌, [], length}
use Rattle.icu_char16trie.specs.UnitReadingOrder.{jobs_left, pairs_read}
use Rattle.icu_char16trie.proofs.Reading.TestLemmas.{IsTesting}
use Rattle.icu_char16trie.proofs.Reading.ProgressLemmas.{work}
use Rattle.icu_char16trie.proofs.reader.queue.Queue.test_all.Given as goal

abbrev pub invariant-loop-task : goal.invariant-loop-task
invariant-loop-task g l = record {
  testing : IsTesting l.units l.limit (jobs_left l.fn.self) (jobs_left l.self) (g.T.EntryTest.test l.test) l.all;
  none : pairs_read l.self ≡ [];
}

abbrev pub decreases-loop-task : goal.decreases-loop-task
decreases-loop-task g l = work (length l.units) (jobs_left l.self)
