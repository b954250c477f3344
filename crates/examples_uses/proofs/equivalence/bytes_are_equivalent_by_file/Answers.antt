use Rattle.std.proofs.Common.{ap}
use Rattle.icu_normalizer_core.specs.Decoding.{utf8_chars}
use Rattle.icu_normalizer.specs.Equivalence.{IsEquivalent}
use Rattle.icu_collator_types.specs.declared.options.CollatorOptions.{CollatorOptions}
use Rattle.collate_lines.specs.Limits.{standard}
use Rattle.collate_laws.specs.Files.{file_canonical, file_options, file_order}
use Rattle.examples_uses.proofs.UseAnswerLemmas.{tells_equal}
use Rattle.examples_uses.proofs.equivalence.bytes_are_equivalent_by_file.Goals as goal

pub returns-clause-accepted : goal.returns-clause-accepted
returns-clause-accepted c = c.in_ok-order.ensures.accepted

pub returns-clause-equivalent : goal.returns-clause-equivalent
returns-clause-equivalent c =
    let left = utf8_chars c.args.left.now in
    let right = utf8_chars c.args.right.now in
    let options = c.at_identical-options.result in
    tells_equal c.in_ok-order.order (file_order c.args.file.now options c.args.preferences left right) c.is_eq.result
    (IsEquivalent (file_canonical c.args.file.now) left right) c.is_eq.ensures c.in_ok-order.ensures.order
    (c.equal_by_a_file_is_equivalence.ensures.identical standard c.args.file.now options c.args.preferences left right
    c.in_ok-order.ensures.accepted
    (ap (λ (o : CollatorOptions). (file_options c.args.file.now o c.args.preferences).strength) c.at_identical-options.ensures)
    (c.characters_are_scalars.ensures.utf8 c.args.left.now)
    (c.characters_are_scalars.ensures.utf8 c.args.right.now))
