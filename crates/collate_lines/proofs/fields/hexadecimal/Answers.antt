use Rattle.std.proofs.Common.{◌<◌, ◌^◌, arith, lit<}
use Rattle.collate_lines.proofs.reading.NumberLemmas.{power_most}
use Rattle.collate_lines.proofs.fields.hexadecimal.Goals as goal

pub overflow_mul-number : goal.overflow_mul-number
overflow_mul-number c =
    let small : c.loop-byte.number < 16 ^ 7 = power_most 16 _ _ 7 (lit< tt) c.loop-byte.invariant.1 (omega arith) in omega arith

pub overflow_add-number : goal.overflow_add-number
overflow_add-number c =
    let small : c.loop-byte.number < 16 ^ 7 = power_most 16 _ _ 7 (lit< tt) c.loop-byte.invariant.1 (omega arith) in omega (arith, c.in_ok-hex_digit_value.ensures.bound)
