use Rattle.std.proofs.Common.{◌∙◌, sym}
use Rattle.icu_char16trie.specs.UnitReadingOrder.{jobs_left, pairs_read}
use Rattle.icu_char16trie.proofs.Reading.QueueLemmas.{taken}
use Rattle.icu_char16trie.proofs.reader.queue.Queue.take.Goals as goal

pub returns-clause-taken : goal.returns-clause-taken
returns-clause-taken c =
    taken c.args.units.now c.args.limit c.args.task.key.items c.in_ok-key.key.items c.args.task.part c.in-Ok.step
    (jobs_left c.args.self.now) (jobs_left c.put_copy.new.self) (jobs_left c.note.new.self) (jobs_left c.put.new.self)
    (pairs_read c.args.self.now) (pairs_read c.put_copy.new.self) (pairs_read c.note.new.self) (pairs_read c.put.new.self)
    (sym c.part_step.ensures ∙ c.in-Ok.is)
    (c.has_room.ensures.0 c.if-not-has_room.false)
    c.in_ok-key.ensures
    c.in_ok-put_copy.ensures.jobs
    c.put_copy.ensures.pairs
    c.note.ensures.jobs
    c.in_ok-note.ensures.pairs
    c.in_ok-put.ensures.jobs
    c.put.ensures.pairs
