use Rattle.std.proofs.Common.{ℕ, List, ap, ◌∙◌}
use Rattle.icu_normalizer_core.specs.Decoding.{utf8_chars}
use Rattle.icu_normalizer.specs.TextForms.{decomposed_text}
use Rattle.icu_collator_types.specs.Options.{resolved_options}
use Rattle.icu_collator.specs.KeyBytes.{key_of_text}
use Rattle.collate_lines.specs.Limits.{standard}
use Rattle.collate_records.specs.Files.{FileRecords}
use Rattle.collate_rules.specs.Meaning.{canonical_of, collation_of, settings_of}
use Rattle.examples_uses.proofs.UseFileLemmas.{decomposed_good, records_read}
use Rattle.examples_uses.proofs.normalised.decomposed_key_by_file.Goals as goal

pub returns-clause-accepted : goal.returns-clause-accepted
returns-clause-accepted c =
    (records_read c.args.file.now c.read.result c.in_ok-records.records c.in_ok-records.ensures.value c.read.ensures).0

pub returns-clause-key : goal.returns-clause-key
returns-clause-key c =
    let file = c.args.file.now in
    let text = c.args.text.now in
    let records = c.in_ok-records.records in
    let read = records_read file c.read.result records c.in_ok-records.ensures.value c.read.ensures in
    let good = decomposed_good file c.args.options c.args.preferences read.0 text c.utf8.text
    (c.normalising_first_is_as_good.ensures.decomposed standard file c.args.options c.args.preferences (utf8_chars text) read.0 (c.characters_are_scalars.ensures.utf8 text)) in
    c.in_ok-key.ensures
    ∙ ap (λ (bytes : List ℕ). key_of_text (collation_of records.lines) (resolved_options c.args.options c.args.preferences (settings_of records.lines)) (utf8_chars bytes))
    (c.as_str.ensures.value ∙ c.in_ok-form.ensures)
    ∙ ap (λ (said : FileRecords). key_of_text (collation_of said.lines) (resolved_options c.args.options c.args.preferences (settings_of said.lines))
    (utf8_chars (decomposed_text (canonical_of said.lines) text))) read.1
    ∙ good.key
