use Rattle.std.proofs.Common.{rules, arith}
use Rattle.std.proofs.lemmas.Bool.Decides.{nat_tests}
use Rattle.icu_collator.proofs.ThreeByteLemmas.{three_begin}
use Rattle.icu_collator.proofs.encodings.utf8.three_byte_char.Goals as goal

pub returns-then-code-lt55296-clause-spelled : goal.returns-then-code-lt55296-clause-spelled
returns-then-code-lt55296-clause-spelled c =
    three_begin c.args.bytes.now c.in_ok-lead.rest.now c.in_ok-next.behind.now c.in_ok-last._after.now c.in_ok-lead.lead.now c.in_ok-next.next.now
    c.in_ok-last.last.now c.in_ok-low.low (search rules) (search rules) (search rules) (grind (arith, nat_tests)) (grind (arith, nat_tests))
    (grind (arith, nat_tests)) (grind (arith, nat_tests)) (grind (arith, nat_tests)) (grind (arith, nat_tests)) (search rules) (grind (arith, nat_tests)) (search rules)

pub returns-clause-spelled : goal.returns-clause-spelled
returns-clause-spelled c =
    three_begin c.args.bytes.now c.in_ok-lead.rest.now c.in_ok-next.behind.now c.in_ok-last._after.now c.in_ok-lead.lead.now c.in_ok-next.next.now
    c.in_ok-last.last.now c.in_ok-first.first (search rules) (search rules) (search rules) (grind (arith, nat_tests)) (grind (arith, nat_tests))
    (grind (arith, nat_tests)) (grind (arith, nat_tests)) (grind (arith, nat_tests)) (grind (arith, nat_tests)) (search rules) (grind (arith, nat_tests)) (search rules)
