use Rattle.std.proofs.Common.{rules, arith}
use Rattle.std.proofs.lemmas.Bool.Decides.{nat_tests}
use Rattle.icu_normalizer.proofs.passed.FormTextLemmas.{utf8_one, utf8_two, utf8_three}
use Rattle.icu_normalizer.proofs.text_sources.bytes.short_char.Goals as goal

pub returns-then-lead-lt128-clause-first : goal.returns-then-lead-lt128-clause-first
returns-then-lead-lt128-clause-first c = utf8_one c.args.bytes.now c.in_ok-lead.rest.now c.in_ok-lead.lead.now _ (search rules) (search rules) (search rules)

pub returns-then-lead-lt224-clause-first : goal.returns-then-lead-lt224-clause-first
returns-then-lead-lt224-clause-first c =
    utf8_two c.args.bytes.now c.in_ok-lead.rest.now c.in_ok-next.behind.now c.in_ok-lead.lead.now c.in_ok-next.next.now c.in_ok-from_u32.field-0
    (search rules) (search rules) (grind (arith, nat_tests)) (grind (arith, nat_tests)) (grind (arith, nat_tests)) (grind (arith, nat_tests)) (search rules)

pub returns-clause-first : goal.returns-clause-first
returns-clause-first c =
    utf8_three c.args.bytes.now c.in_ok-lead.rest.now c.in_ok-next.behind.now c.in_ok-last.after.now c.in_ok-lead.lead.now c.in_ok-next.next.now c.in_ok-last.last.now c.in_ok-from_u32-2.field-0
    (search rules) (search rules) (search rules) (grind (arith, nat_tests)) (grind (arith, nat_tests)) (grind (arith, nat_tests)) (grind (arith, nat_tests)) (grind (arith, nat_tests)) (grind (arith, nat_tests)) (search rules)
