use Rattle.collate_records.proofs.reader.first_offender.Goals as goal

pub returns-in-C1 : goal.returns-in-C1
returns-in-C1 c = rw c.in-C1.is c.first_mapped_mark.ensures

pub returns-in-C2 : goal.returns-in-C2
returns-in-C2 c = rw c.in-C2.is c.first_loop.ensures

pub returns-in-C4 : goal.returns-in-C4
returns-in-C4 c = rw c.in-C4.is c.first_bad_list.ensures

pub returns-in-C7 : goal.returns-in-C7
returns-in-C7 c = rw c.in-C7.is c.first_bad_low.ensures

pub returns-in-V9 : goal.returns-in-V9
returns-in-V9 c = rw c.in-V9.is c.first_lacking_shorter.ensures

pub returns-in-V12 : goal.returns-in-V12
returns-in-V12 c = rw c.in-V12.is c.first_bad_jamo.ensures
