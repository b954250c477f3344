use Rattle.std.proofs.Common.{◌≡◌, ◌+◌, ◌-◌, ◌*◌, ◌≤◌, Bool, true, false, cond, map, refl, arith, ◌∙◌}
use mir.Val.{bool_byte}
use Rattle.collate_lines.specs.Record.{said}
use Rattle.collate_rules.specs.Meaning.{is_compressible_in}
use Rattle.collate_compile.proofs.setting.LeadBitLemmas.{highest_all, highest_more, highest_none, highest_small}
use Rattle.collate_compile.proofs.special_primaries.compressible_bits.Goals as goal

byte_is : (b : Bool) → bool_byte b ≡ cond b 1 0
byte_is true = refl
byte_is false = refl

byte_most : (b : Bool) → bool_byte b ≤ 1
byte_most true = omega arith
byte_most false = omega arith

pub loop-i-init : goal.loop-i-init
loop-i-init c = highest_none (is_compressible_in (map said c.args.lines.now)) c.args.part

pub overflow_mul-bits : goal.overflow_mul-bits
overflow_mul-bits c = omega (arith, highest_small _ _ _ _ c.loop-i.invariant c.loop-i-test.true)

pub overflow_add-bits : goal.overflow_add-bits
overflow_add-bits c = omega (
  arith,
  highest_small _ _ _ _ c.loop-i.invariant c.loop-i-test.true,
  c.from.ensures,
  byte_most c.is_compressible.result,
)

pub loop-i-preserved : goal.loop-i-preserved
loop-i-preserved c =
    highest_more (is_compressible_in (map said c.args.lines.now)) c.args.part c.loop-i.i c.loop-i.bits c.from.result
    (c.args.part * 16 + (15 - c.loop-i.i)) c.is_compressible.result
    c.loop-i.invariant c.loop-i-test.true (omega arith) c.is_compressible.ensures
    (c.from.ensures ∙ byte_is c.is_compressible.result)

pub returns : goal.returns
returns c =
    let past : 16 ≤ c.loop-i.i = omega arith in
    highest_all (is_compressible_in (map said c.args.lines.now)) c.args.part c.loop-i.i c.loop-i.bits
    c.loop-i.invariant past
