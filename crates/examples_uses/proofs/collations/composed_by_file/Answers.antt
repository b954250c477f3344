use Rattle.std.proofs.Common.{◌≡◌, ap, ◌∙◌, string_bytes}
use Rattle.icu_normalizer.specs.TextForms.{composed_text}
use Rattle.collate_lines.specs.Lines.{records_of}
use Rattle.collate_records.specs.Files.{FileRecords, IsAccepted}
use Rattle.collate_rules.specs.Meaning.{canonical_of}
use Rattle.examples_uses.proofs.UseAnswerLemmas.{of_any, of_some}
use Rattle.examples_uses.proofs.UseFileLemmas.{records_read}
use Rattle.examples_uses.proofs.collations.composed_by_file.Goals as goal

pub returns-clause-accepted : goal.returns-clause-accepted
returns-clause-accepted c =
    of_any (IsAccepted c.args.file.now) c.composed_by_records.result
    (records_read c.args.file.now c.read.result c.in_ok-records.records c.in_ok-records.ensures.value c.read.ensures).0

pub returns-clause-form : goal.returns-clause-form
returns-clause-form c =
    of_some
    (λ form. string_bytes form ≡ composed_text (canonical_of c.in_ok-records.records.lines) c.args.text.now)
    (λ form. string_bytes form ≡ composed_text (canonical_of (records_of c.args.file.now)) c.args.text.now)
    c.composed_by_records.result c.composed_by_records.ensures
    (λ form said. said
    ∙ ap (λ (said : FileRecords). composed_text (canonical_of said.lines) c.args.text.now)
    (records_read c.args.file.now c.read.result c.in_ok-records.records c.in_ok-records.ensures.value c.read.ensures).1)
