use Rattle.std.proofs.Common.{reverse, map, vec_len}
use Rattle.icu_char16trie.specs.UnitReadingOrder.{jobs_left, pairs_read, job_of}
use Rattle.icu_char16trie.proofs.Reading.QueueLemmas.{popped_first, on_way_first, on_way_more, on_way_stuck, on_way_end, nothing_left}
use Rattle.icu_char16trie.proofs.Reading.ProgressLemmas.{work_falls}
use Rattle.icu_char16trie.proofs.reader.queue.Queue.take_all.Goals as goal

pub loop-task-smaller : goal.loop-task-smaller
loop-task-smaller c =
    work_falls c.args.units.now c.args.limit c.in-Some.task.key.items c.in-Some.task.part
    (jobs_left c.loop-task.self) (reverse (map job_of c.pop.new.self.items)) (jobs_left c.take.new.self)
    (pairs_read c.loop-task.self) (pairs_read c.take.new.self)
    (popped_first c.loop-task.self.tasks.items c.pop.new.self.items c.in-Some.task c.in-Some.ensures.items)
    c.in_default-take.ensures.taken

pub loop-task-init : goal.loop-task-init
loop-task-init c = on_way_first c.args.units.now c.args.limit (jobs_left c.args.self.now) (pairs_read c.args.self.now)

pub loop-task-preserved : goal.loop-task-preserved
loop-task-preserved c =
    on_way_more c.args.units.now c.args.limit (jobs_left c.args.self.now) (pairs_read c.args.self.now) c.in-Some.task.key.items c.in-Some.task.part
    (jobs_left c.loop-task.self) (reverse (map job_of c.pop.new.self.items)) (jobs_left c.take.new.self)
    (pairs_read c.loop-task.self) (pairs_read c.take.new.self)
    (popped_first c.loop-task.self.tasks.items c.pop.new.self.items c.in-Some.task c.in-Some.ensures.items)
    c.loop-task.invariant
    c.in_default-take.ensures.taken

pub returns-in-Err-clause-stops : goal.returns-in-Err-clause-stops
returns-in-Err-clause-stops c index e =
    on_way_stuck c.args.units.now c.args.limit (jobs_left c.args.self.now) (pairs_read c.args.self.now) c.in-Some.task.key.items c.in-Some.task.part
    (jobs_left c.loop-task.self) (reverse (map job_of c.pop.new.self.items)) (jobs_left c.take.new.self)
    (pairs_read c.loop-task.self) (pairs_read c.take.new.self)
    (popped_first c.loop-task.self.tasks.items c.pop.new.self.items c.in-Some.task c.in-Some.ensures.items)
    c.loop-task.invariant
    index
    (c.in-Err.ensures.stuck index e)

pub returns-clause-read : goal.returns-clause-read
returns-clause-read c =
    on_way_end c.args.units.now c.args.limit (jobs_left c.args.self.now) (pairs_read c.args.self.now) (jobs_left c.loop-task.self)
    (pairs_read c.loop-task.self)
    (nothing_left c.loop-task.self.tasks.items c.pop.new.self.items (vec_len c.loop-task.self.tasks) c.in_default.ensures.cases.0 c.in_default.ensures.items c.in_default.ensures.rest)
    c.loop-task.invariant
