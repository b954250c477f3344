use Rattle.std.proofs.Common.{◌≡◌, ap, ◌∙◌}
use Rattle.collate_lines.specs.Limits.{standard}
use Rattle.collate_records.specs.Files.{FileRecords, IsAccepted}
use Rattle.collate_index.specs.Catalogue.{opened, opened_by}
use Rattle.examples_uses.proofs.UseAnswerLemmas.{of_any, of_ok}
use Rattle.examples_uses.proofs.UseFileLemmas.{records_read}
use Rattle.examples_uses.proofs.names.index_by_file.Goals as goal

pub returns-clause-accepted : goal.returns-clause-accepted
returns-clause-accepted c =
    of_any (IsAccepted c.args.file.now) c.ok-2.result
    (records_read c.args.file.now c.read.result c.in_ok-records.records c.in_ok-records.ensures.value c.read.ensures).0

pub returns-clause-opened : goal.returns-clause-opened
returns-clause-opened c =
    of_ok
    (λ index. index ≡ opened c.in_ok-records.records c.args.preferences.now c.args.options.now)
    (λ index. index ≡ opened_by standard c.args.file.now c.args.preferences.now c.args.options.now)
    c.new.result c.ok-2.result c.ok-2.ensures.value c.new.ensures
    (λ index is. is
    ∙ ap (λ (said : FileRecords). opened said c.args.preferences.now c.args.options.now)
    (records_read c.args.file.now c.read.result c.in_ok-records.records c.in_ok-records.ensures.value c.read.ensures).1)
