use Rattle.std.proofs.Common.{subst}
use Rattle.collate_lines.specs.Lines.{records_of}
use Rattle.collate_records.specs.Files.{FileRecords, IsAccepted, IsReadFrom}
use Rattle.collate_laws.specs.OverRecords.{IsCollatorOf}
use Rattle.examples_uses.proofs.UseAnswerLemmas.{of_any, of_ok, ok_gives}
use Rattle.examples_uses.proofs.comparisons.collator_by_file.Goals as goal

pub returns-clause-accepted : goal.returns-clause-accepted
returns-clause-accepted c =
    let read = subst (IsReadFrom c.args.file.now) (ok_gives c.read.result c.in_ok-records.records c.in_ok-records.ensures.value) c.read.ensures in
    of_any (IsAccepted c.args.file.now) c.ok-2.result read.0

pub returns-clause-collator : goal.returns-clause-collator
returns-clause-collator c =
    let read = subst (IsReadFrom c.args.file.now) (ok_gives c.read.result c.in_ok-records.records c.in_ok-records.ensures.value) c.read.ensures in
    of_ok
    (IsCollatorOf c.in_ok-records.records.lines c.args.options c.args.preferences)
    (IsCollatorOf (records_of c.args.file.now) c.args.options c.args.preferences)
    c.collator_of.result c.ok-2.result c.ok-2.ensures.value c.collator_of.ensures
    (λ collator is. subst (λ (said : FileRecords). IsCollatorOf said.lines c.args.options c.args.preferences collator) read.1 is)
