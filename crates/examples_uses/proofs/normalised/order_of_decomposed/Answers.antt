use Rattle.std.proofs.Common.{◌≡◌, ◌∙◌}
use Rattle.icu_normalizer_core.specs.Decoding.{utf8_chars}
use Rattle.icu_normalizer.specs.TextForms.{decomposed_text}
use Rattle.icu_collator_types.specs.Options.{resolved_options}
use Rattle.icu_collator.specs.Order.{collation_order}
use Rattle.collate_rules.specs.Meaning.{canonical_of, collation_of, settings_of}
use Rattle.examples_uses.proofs.UseAnswerLemmas.{of_same}
use Rattle.examples_uses.proofs.normalised.order_of_decomposed.Goals as goal

pub returns : goal.returns
returns c =
    let records = c.args.records.now.lines in
    of_same (λ left right order. order ≡ collation_order (collation_of records) (resolved_options c.args.options c.args.preferences (settings_of records)) (utf8_chars left) (utf8_chars right))
    c.order_by_records.result c.as_str.result.now c.as_str-2.result.now
    (decomposed_text (canonical_of records) c.args.left.now) (decomposed_text (canonical_of records) c.args.right.now)
    (c.as_str.ensures.value ∙ c.in_ok-left.ensures) (c.as_str-2.ensures.value ∙ c.in_ok-right.ensures) c.order_by_records.ensures
