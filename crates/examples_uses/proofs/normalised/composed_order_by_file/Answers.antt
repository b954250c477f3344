use Rattle.std.proofs.Common.{ap, ◌∙◌}
use Rattle.icu_normalizer_core.specs.Decoding.{utf8_chars}
use Rattle.icu_normalizer.specs.TextForms.{composed_text}
use Rattle.icu_collator_types.specs.Options.{resolved_options}
use Rattle.icu_collator.specs.Order.{collation_order}
use Rattle.collate_lines.specs.Limits.{standard}
use Rattle.collate_records.specs.Files.{FileRecords}
use Rattle.collate_rules.specs.Meaning.{canonical_of, collation_of, settings_of}
use Rattle.examples_uses.proofs.UseFileLemmas.{composed_good, good_order_alike, records_read}
use Rattle.examples_uses.proofs.normalised.composed_order_by_file.Goals as goal

pub returns-clause-accepted : goal.returns-clause-accepted
returns-clause-accepted c =
    (records_read c.args.file.now c.read.result c.in_ok-records.records c.in_ok-records.ensures.value c.read.ensures).0

pub returns-clause-order : goal.returns-clause-order
returns-clause-order c =
    let file = c.args.file.now in
    let left = c.args.left.now in
    let right = c.args.right.now in
    let read = records_read file c.read.result c.in_ok-records.records c.in_ok-records.ensures.value c.read.ensures in
    c.in_ok-order.ensures
    ∙ ap (λ (said : FileRecords). collation_order (collation_of said.lines) (resolved_options c.args.options c.args.preferences (settings_of said.lines))
    (utf8_chars (composed_text (canonical_of said.lines) left)) (utf8_chars (composed_text (canonical_of said.lines) right))) read.1
    ∙ good_order_alike file c.args.options c.args.preferences _ _ (utf8_chars left) (utf8_chars right)
    (composed_good file c.args.options c.args.preferences read.0 left c.utf8.left
    (c.normalising_first_is_as_good.ensures.composed standard file c.args.options c.args.preferences (utf8_chars left) read.0 (c.characters_are_scalars.ensures.utf8 left)))
    (composed_good file c.args.options c.args.preferences read.0 right c.utf8.right
    (c.normalising_first_is_as_good.ensures.composed standard file c.args.options c.args.preferences (utf8_chars right) read.0 (c.characters_are_scalars.ensures.utf8 right)))
