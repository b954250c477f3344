use Rattle.std.proofs.Common.{◌≡◌, ◌∙◌}
use Rattle.icu_normalizer_core.specs.Decoding.{utf8_chars}
use Rattle.icu_collator.specs.CollatorAnswers.{order_by}
use Rattle.collate_lines.specs.Limits.{standard}
use Rattle.examples_uses.proofs.UseAnswerLemmas.{of_given}
use Rattle.examples_uses.proofs.comparisons.bytes_order_by_file.Goals as goal

pub returns-clause-accepted : goal.returns-clause-accepted
returns-clause-accepted c = c.in_ok-collator.ensures.accepted

pub returns-clause-order : goal.returns-clause-order
returns-clause-order c =
    of_given (λ order. order ≡ order_by c.as_borrowed.result (utf8_chars c.args.left.now) (utf8_chars c.args.right.now))
    c.compare_utf8.result c.in_ok-order.order c.in_ok-order.ensures.value c.compare_utf8.ensures
    ∙ c.collators_answer_as_the_file_says.ensures.order standard c.args.file.now c.args.options c.args.preferences
    c.in_ok-collator.collator c.as_borrowed.result (utf8_chars c.args.left.now) (utf8_chars c.args.right.now)
    c.in_ok-collator.ensures.accepted c.in_ok-collator.ensures.collator c.as_borrowed.ensures.source c.as_borrowed.ensures.options
    (c.characters_are_scalars.ensures.utf8 c.args.left.now)
    (c.characters_are_scalars.ensures.utf8 c.args.right.now)
