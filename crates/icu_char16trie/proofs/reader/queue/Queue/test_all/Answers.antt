use Rattle.std.proofs.Common.{reverse, map, vec_len, length, [], ◌<◌, subst, sym}
use Rattle.icu_char16trie.specs.UnitReadingOrder.{jobs_left, pairs_read, job_of, IsTaken}
use Rattle.icu_char16trie.proofs.Reading.QueueLemmas.{popped_first, nothing_left, on_way_stuck}
use Rattle.icu_char16trie.proofs.Reading.ProgressLemmas.{work, work_falls}
use Rattle.icu_char16trie.proofs.Reading.ErrorLemmas.{error_at}
use Rattle.icu_char16trie.proofs.Reading.TestLemmas.{IsTesting, testing_more, testing_end}
use Rattle.icu_char16trie.proofs.reader.queue.Queue.test_all.Goals as goal

pub loop-task-smaller : goal.loop-task-smaller
loop-task-smaller g c =
    subst (λ jobs. work (length c.args.units.now) jobs < work (length c.args.units.now) (jobs_left c.loop-task.self)) (sym c.test_last-all.ensures.jobs)
    (work_falls c.args.units.now c.args.limit c.in-Some.task.key.items c.in-Some.task.part
    (jobs_left c.loop-task.self) (reverse (map job_of c.pop.new.self.items)) (jobs_left c.take.new.self)
    (pairs_read c.loop-task.self) (pairs_read c.take.new.self)
    (popped_first c.loop-task.self.tasks.items c.pop.new.self.items c.in-Some.task c.in-Some.ensures.items)
    c.in_default-take.ensures.taken)

pub loop-task-preserved : goal.loop-task-preserved
loop-task-preserved g c =
    let none = c.loop-task.invariant.none in
    let taken : IsTaken c.args.units.now c.args.limit c.in-Some.task.key.items c.in-Some.task.part (reverse (map job_of c.pop.new.self.items)) (jobs_left c.take.new.self) [] (pairs_read c.take.new.self) =
    subst (λ read. IsTaken c.args.units.now c.args.limit c.in-Some.task.key.items c.in-Some.task.part (reverse (map job_of c.pop.new.self.items)) (jobs_left c.take.new.self) read (pairs_read c.take.new.self)) none
    c.in_default-take.ensures.taken in
    record {
      testing = subst (λ jobs. IsTesting c.args.units.now c.args.limit (jobs_left c.args.self.now) jobs (g.T.EntryTest.test c.args.test.now) c.test_last-all.result) (sym c.test_last-all.ensures.jobs)
          (testing_more c.args.units.now c.args.limit c.in-Some.task.key.items c.in-Some.task.part (reverse (map job_of c.pop.new.self.items)) (jobs_left c.take.new.self) (pairs_read c.take.new.self) taken
          (jobs_left c.args.self.now) (jobs_left c.loop-task.self) (g.T.EntryTest.test c.args.test.now) c.loop-task.all c.test_last-all.result
          (popped_first c.loop-task.self.tasks.items c.pop.new.self.items c.in-Some.task c.in-Some.ensures.items) c.loop-task.invariant.testing c.test_last-all.ensures.all);
      none = c.test_last-all.ensures.pairs;
    }

pub returns-in-Err-clause-stops : goal.returns-in-Err-clause-stops
returns-in-Err-clause-stops g c index e =
    on_way_stuck c.args.units.now c.args.limit (jobs_left c.args.self.now) [] c.in-Some.task.key.items c.in-Some.task.part
    (jobs_left c.loop-task.self) (reverse (map job_of c.pop.new.self.items)) []
    c.loop-task.invariant.testing.0 []
    (popped_first c.loop-task.self.tasks.items c.pop.new.self.items c.in-Some.task c.in-Some.ensures.items)
    c.loop-task.invariant.testing.1
    index
    (c.in-Err.ensures.stuck index (error_at c.in-Err.error index e))

pub returns-clause-tested : goal.returns-clause-tested
returns-clause-tested g c =
    testing_end c.args.units.now c.args.limit (jobs_left c.args.self.now) (g.T.EntryTest.test c.args.test.now) (jobs_left c.loop-task.self) c.loop-task.all
    (nothing_left c.loop-task.self.tasks.items c.pop.new.self.items (vec_len c.loop-task.self.tasks) c.in_default.ensures.cases.0 c.in_default.ensures.items c.in_default.ensures.rest)
    c.loop-task.invariant.testing
