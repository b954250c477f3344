use Rattle.std.proofs.Common.{arith}
use Rattle.icu_collator_core.proofs.numbers.NumberPartLemmas.{value_fits}
use Rattle.icu_collator_core.proofs.reading.numbers.value_of.Goals as goal

pub overflow_mul-value : goal.overflow_mul-value
overflow_mul-value c =
    let low = value_fits c.args.digits.now c.loop-digit.digit-index c.requires.digits c.loop-digit-test.true c.requires.few in
    let same = c.loop-digit.invariant in
    omega (arith, low, same)

pub overflow_add-value : goal.overflow_add-value
overflow_add-value c =
    let low = value_fits c.args.digits.now c.loop-digit.digit-index c.requires.digits c.loop-digit-test.true c.requires.few in
    let same = c.loop-digit.invariant in
    let digit = c.type_inv.digits c.loop-digit.digit-index in
    let from = c.from.ensures in
    omega (arith, low, same, digit, from)
