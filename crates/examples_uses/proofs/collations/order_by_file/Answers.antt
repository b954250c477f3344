use Rattle.std.proofs.Common.{◌≡◌, ap, ◌∙◌, subst}
use Rattle.std.specs.Prelude.{IfOk, MatchResult}
use Rattle.icu_normalizer_core.specs.Decoding.{utf8_chars}
use Rattle.icu_collator_types.specs.Options.{resolved_options}
use Rattle.icu_collator.specs.Collators.{borrowed_collation, borrowed_options}
use Rattle.icu_collator.specs.Order.{collation_order}
use Rattle.icu_collator.specs.declared.comparison.error.CollatorError.TheVariants.{Memory}
use Rattle.collate_lines.specs.Lines.{records_of}
use Rattle.collate_records.specs.CompiledOf.{IsCompiledOf}
use Rattle.collate_records.specs.Files.{FileRecords, IsAccepted, IsReadFrom}
use Rattle.collate_rules.specs.Meaning.{collation_of, settings_of}
use Rattle.collate_laws.specs.OverRecords.{IsCollatorOf}
use Rattle.examples_uses.proofs.UseAnswerLemmas.{of_any, of_ok, ok_gives}
use Rattle.examples_uses.proofs.UseFileLemmas.{order_by_records}
use Rattle.examples_uses.proofs.collations.order_by_file.Goals as goal

pub returns-clause-accepted : goal.returns-clause-accepted
returns-clause-accepted c =
    let read = subst (IsReadFrom c.args.file.now) (ok_gives c.read.result c.in_ok-records.records c.in_ok-records.ensures.value) c.read.ensures in
    of_any (IsAccepted c.args.file.now) c.ok-4.result read.0

pub returns-clause-order : goal.returns-clause-order
returns-clause-order c =
    let records = c.in_ok-records.records in
    let read = subst (IsReadFrom c.args.file.now) (ok_gives c.read.result records c.in_ok-records.ensures.value) c.read.ensures in
    let compiled = subst (λ r. IfOk r (IsCompiledOf records.lines)) (ok_gives c.compile.result c.in_ok-provider.provider c.in_ok-provider.ensures.value) c.compile.ensures.compiled in
    let made = c.compiled_tables_make_collators.ensures records.lines c.in_ok-provider.provider c.args.options c.args.preferences c.try_new_unstable.result
    c.keep_rules.ensures.accepted compiled c.try_new_unstable.ensures in
    let is = subst (λ r. MatchResult r (IsCollatorOf records.lines c.args.options c.args.preferences) (λ error. error ≡ Memory))
    (ok_gives c.try_new_unstable.result c.in_ok-collator.collator c.in_ok-collator.ensures.value) made in
    of_ok
    (λ answer. answer ≡ collation_order (borrowed_collation c.as_borrowed.result) (borrowed_options c.as_borrowed.result) (utf8_chars c.args.left.now) (utf8_chars c.args.right.now))
    (λ answer. answer ≡ collation_order (collation_of (records_of c.args.file.now)) (resolved_options c.args.options c.args.preferences (settings_of (records_of c.args.file.now))) (utf8_chars c.args.left.now) (utf8_chars c.args.right.now))
    c.compare.result c.ok-4.result c.ok-4.ensures.value c.compare.ensures
    (λ answer said.
    said
    ∙ order_by_records records.lines c.args.options c.args.preferences c.in_ok-collator.collator c.as_borrowed.result c.keep_rules.ensures.accepted is
    c.as_borrowed.ensures.source c.as_borrowed.ensures.options c.args.left.now c.args.right.now
    ∙ ap (λ (said : FileRecords). collation_order (collation_of said.lines) (resolved_options c.args.options c.args.preferences (settings_of said.lines)) (utf8_chars c.args.left.now) (utf8_chars c.args.right.now)) read.1)
