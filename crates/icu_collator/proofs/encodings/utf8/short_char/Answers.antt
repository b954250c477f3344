use Rattle.std.proofs.Common.{rules, arith}
use Rattle.std.proofs.lemmas.Bool.Decides.{nat_tests}
use Rattle.icu_normalizer.proofs.passed.FormTextLemmas.{utf8_one, utf8_two}
use Rattle.icu_collator.proofs.encodings.utf8.short_char.Goals as goal

pub returns-then-lead-lt128 : goal.returns-then-lead-lt128
returns-then-lead-lt128 c =
    (utf8_one c.args.bytes.now c.in_ok-lead.rest.now c.in_ok-lead.lead.now _ (search rules) (search rules) (search rules)).characters

pub returns : goal.returns
returns c =
    (utf8_two c.args.bytes.now c.in_ok-lead.rest.now c.in_ok-next.behind.now c.in_ok-lead.lead.now c.in_ok-next.next.now c.in_ok-from_u32.field-0
    (search rules) (search rules) (grind (arith, nat_tests)) (grind (arith, nat_tests)) (grind (arith, nat_tests)) (grind (arith, nat_tests)) (search rules)).characters
