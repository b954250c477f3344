use Rattle.collate_records.proofs.reading.ReadingFaultLemmas.{none_of, refuses_of}
use Rattle.collate_records.proofs.reader.refuse.Goals as goal

pub returns-in-Some-clause-asks : goal.returns-in-Some-clause-asks
returns-in-Some-clause-asks c = λ limits file records of ranked found keeps.
    refuses_of limits file c.args.rule records c.args.numbers.now c.in-Some.index c.fault.result of (rw c.in-Some.is at c.requires) c.fault.ensures ranked (rw c.in-Some.is at found) keeps

pub returns-in-None-clause-asks : goal.returns-in-None-clause-asks
returns-in-None-clause-asks c = λ limits file records of ranked found keeps. none_of limits file c.args.rule records c.args.numbers.now of ranked (rw c.in-None.is at found) keeps
