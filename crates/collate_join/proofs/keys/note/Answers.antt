use Rattle.collate_join.proofs.PartLemmas.{noted}
use Rattle.collate_join.proofs.keys.note.Goals as goal

pub returns-in_ok-insert : goal.returns-in_ok-insert
returns-in_ok-insert c = λ bytes.
    rw c.in-Some.is (noted c.args.parts.now c.insert.new.self c.in-Some.part c.in_ok-insert.ensures.updates bytes)
