use Rattle.std.proofs.Common.{List, ℕ, ap}
use denote.Bor.{Bor}
use Rattle.collate_records.specs.Files.{FileRecords, IsAccepted}
use Rattle.collate_index.specs.Catalogue.{opened}
use Rattle.examples_uses.proofs.UseAnswerLemmas.{of_any}
use Rattle.examples_uses.proofs.UseFileLemmas.{records_read}
use Rattle.examples_uses.proofs.UseRunLemmas.{replied}
use Rattle.examples_uses.proofs.runs.reply_by_file.Goals as goal

pub returns-clause-accepted : goal.returns-clause-accepted
returns-clause-accepted g c =
    of_any (IsAccepted c.args.file.now) c.ok-2.result
    (records_read c.args.file.now c.read.result c.in_ok-records.records c.in_ok-records.ensures.value c.read.ensures).0

pub returns-clause-replies : goal.returns-clause-replies
returns-clause-replies g c =
    replied _ _ c.run.result c.ok-2.result _ _ _ _ _
    (ap (λ (said : FileRecords). opened said c.args.preferences.now c.args.options.now)
    (records_read c.args.file.now c.read.result c.in_ok-records.records c.in_ok-records.ensures.value c.read.ensures).1)
    c.ok-2.ensures.value (ap (λ (r : Bor (List ℕ)). r.now) c.new-reader.ensures.inner) c.run.ensures.ran
