use Rattle.std.proofs.Common.{◌≡◌, ℕ, List, ap, ◌∙◌}
use Rattle.std.specs.Cmp.Lexicographic.{slice_cmp}
use Rattle.std.specs.Ordering.{nat_cmp}
use Rattle.icu_normalizer_core.specs.Decoding.{utf8_chars}
use Rattle.icu_collator.specs.CollatorAnswers.{key_by}
use Rattle.collate_lines.specs.Limits.{standard}
use Rattle.collate_laws.specs.Files.{file_key}
use Rattle.examples_uses.proofs.keys.key_order_by_file.Goals as goal

pub returns-clause-accepted : goal.returns-clause-accepted
returns-clause-accepted c = c.in_ok-collator.ensures.accepted

pub returns-clause-order : goal.returns-clause-order
returns-clause-order c =
    let left = utf8_chars c.args.left.now in
    let right = utf8_chars c.args.right.now in
    let said : (text : List ℕ) → key_by c.as_borrowed.result (utf8_chars text) ≡ file_key c.args.file.now c.args.options c.args.preferences (utf8_chars text) =
    λ text. c.collators_answer_as_the_file_says.ensures.key standard c.args.file.now c.args.options c.args.preferences
    c.in_ok-collator.collator c.as_borrowed.result (utf8_chars text)
    c.in_ok-collator.ensures.accepted c.in_ok-collator.ensures.collator c.as_borrowed.ensures.source c.as_borrowed.ensures.options
    (c.characters_are_scalars.ensures.utf8 text) in
    λ plain.
    c.in_ok-order.ensures
    ∙ ap (λ (k : List ℕ). slice_cmp nat_cmp k (key_by c.as_borrowed.result right)) (said c.args.left.now)
    ∙ ap (λ (k : List ℕ). slice_cmp nat_cmp (file_key c.args.file.now c.args.options c.args.preferences left) k) (said c.args.right.now)
    ∙ c.file_keys_order_as_texts.ensures.order standard c.args.file.now c.args.options c.args.preferences left right
    c.in_ok-collator.ensures.accepted plain
    (c.characters_are_scalars.ensures.utf8 c.args.left.now) (c.characters_are_scalars.ensures.utf8 c.args.right.now)
