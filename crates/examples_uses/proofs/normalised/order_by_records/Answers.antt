use Rattle.std.proofs.Common.{◌≡◌, ◌∙◌}
use Rattle.icu_normalizer_core.specs.Decoding.{utf8_chars}
use Rattle.icu_collator.specs.CollatorAnswers.{order_by}
use Rattle.collate_laws.specs.OverRecords.{IsCollatorOf}
use Rattle.examples_uses.proofs.UseAnswerLemmas.{of_given}
use Rattle.examples_uses.proofs.UseFileLemmas.{order_by_records}
use Rattle.examples_uses.proofs.normalised.order_by_records.Goals as goal

pub returns : goal.returns
returns c =
    of_given (λ order. order ≡ order_by c.as_borrowed.result (utf8_chars c.args.left.now) (utf8_chars c.args.right.now))
    c.compare.result c.in_ok-order.order c.in_ok-order.ensures.value c.compare.ensures
    ∙ order_by_records c.args.records.now.lines c.args.options c.args.preferences c.in_ok-collator.collator c.as_borrowed.result c.keep_rules.ensures.accepted
    (of_given (IsCollatorOf c.args.records.now.lines c.args.options c.args.preferences) c.collator_of.result c.in_ok-collator.collator c.in_ok-collator.ensures.value c.collator_of.ensures)
    c.as_borrowed.ensures.source c.as_borrowed.ensures.options c.args.left.now c.args.right.now
