use Rattle.std.proofs.Common.{◌≡◌, ℕ, List, ◌++◌, ap, ◌∙◌, subst}
use Rattle.std.specs.Prelude.{IfOk, MatchResult}
use Rattle.icu_normalizer_core.specs.Decoding.{utf8_chars}
use Rattle.icu_collator_types.specs.Options.{resolved_options}
use Rattle.icu_collator.specs.Collators.{borrowed_collation, borrowed_options}
use Rattle.icu_collator.specs.KeyBytes.{key_of_text}
use Rattle.icu_collator.specs.declared.comparison.error.CollatorError.TheVariants.{Memory}
use Rattle.collate_records.specs.CompiledOf.{IsCompiledOf}
use Rattle.collate_records.specs.Files.{FileRecords, IsReadFrom}
use Rattle.collate_rules.specs.Meaning.{collation_of, settings_of}
use Rattle.collate_laws.specs.OverRecords.{IsCollatorOf}
use Rattle.examples_uses.proofs.UseAnswerLemmas.{ok_gives}
use Rattle.examples_uses.proofs.UseFileLemmas.{key_by_records}
use Rattle.examples_uses.proofs.collations.key_by_file.Goals as goal

pub returns-clause-accepted : goal.returns-clause-accepted
returns-clause-accepted c =
    let read = subst (IsReadFrom c.args.file.now) (ok_gives c.read.result c.in_ok-records.records c.in_ok-records.ensures.value) c.read.ensures in
    read.0

pub returns-clause-key : goal.returns-clause-key
returns-clause-key c =
    let records = c.in_ok-records.records in
    let read = subst (IsReadFrom c.args.file.now) (ok_gives c.read.result records c.in_ok-records.ensures.value) c.read.ensures in
    let compiled = subst (λ r. IfOk r (IsCompiledOf records.lines)) (ok_gives c.compile.result c.in_ok-provider.provider c.in_ok-provider.ensures.value) c.compile.ensures.compiled in
    let made = c.compiled_tables_make_collators.ensures records.lines c.in_ok-provider.provider c.args.options c.args.preferences c.try_new_unstable.result
    c.keep_rules.ensures.accepted compiled c.try_new_unstable.ensures in
    let is = subst (λ r. MatchResult r (IsCollatorOf records.lines c.args.options c.args.preferences) (λ error. error ≡ Memory))
    (ok_gives c.try_new_unstable.result c.in_ok-collator.collator c.in_ok-collator.ensures.value) made in
    let key = key_of_text (borrowed_collation c.as_borrowed.result) (borrowed_options c.as_borrowed.result) (utf8_chars c.args.text.now) in
    let written : c.write_sort_key_to.new.sink.items ≡ c.new-key.result.items ++ key =
    subst (λ r. IfOk r (λ _. c.write_sort_key_to.new.sink.items ≡ c.new-key.result.items ++ key)) (ok_gives c.write_sort_key_to.result c.in_ok-ok.field-0 c.in_ok-ok.ensures.value) c.write_sort_key_to.ensures.written in
    written
    ∙ ap (λ (front : List ℕ). front ++ key) c.new-key.ensures.items
    ∙ key_by_records records.lines c.args.options c.args.preferences c.in_ok-collator.collator c.as_borrowed.result c.keep_rules.ensures.accepted is
    c.as_borrowed.ensures.source c.as_borrowed.ensures.options c.args.text.now
    ∙ ap (λ (said : FileRecords). key_of_text (collation_of said.lines) (resolved_options c.args.options c.args.preferences (settings_of said.lines)) (utf8_chars c.args.text.now)) read.1
