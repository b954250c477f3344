use Rattle.std.proofs.Common.{◌++◌, ◌<◌, ◌≤◌, None, drop, length, arith}
use Rattle.icu_collator_core.specs.DigitRuns.{leading_digits}
use Rattle.icu_collator_core.specs.ReadSources.{weights_by}
use Rattle.icu_collator_core.proofs.readings.DigitRunLemmas.{all_read, digit_read, no_digit_read}
use Rattle.icu_collator_core.proofs.reading.digits.push_digits.Goals as goal

pub returns-in-None : goal.returns-in-None
returns-in-None c =
    let digit = (weights_by None c.args.sound.now).digit in
    let list = c.args.list.now in
    let inside : c.loop-i.i < length list = omega arith in
    no_digit_read digit list c.loop-i.i c.loop-i.digits.items (c.args.digits.now.items ++ leading_digits digit (drop c.args.index list))
    c.index-list-i.result inside c.index-list-i.is c.in-None.ensures c.loop-i.invariant

pub loop-i-preserved : goal.loop-i-preserved
loop-i-preserved c =
    let digit = (weights_by None c.args.sound.now).digit in
    let list = c.args.list.now in
    let inside : c.loop-i.i < length list = omega arith in
    digit_read digit list c.loop-i.i c.loop-i.digits.items (c.args.digits.now.items ++ leading_digits digit (drop c.args.index list))
    c.index-list-i.result c.in-Some.digit c.push.new.self.items inside c.index-list-i.is c.in-Some.ensures c.in_ok-push-in-Some.ensures.ok c.loop-i.invariant

pub returns : goal.returns
returns c =
    let digit = (weights_by None c.args.sound.now).digit in
    let list = c.args.list.now in
    let past : length list ≤ c.loop-i.i = let end = c.loop-i-test.false in omega (arith, end) in
    all_read digit list c.loop-i.i c.loop-i.digits.items (c.args.digits.now.items ++ leading_digits digit (drop c.args.index list)) past c.loop-i.invariant
