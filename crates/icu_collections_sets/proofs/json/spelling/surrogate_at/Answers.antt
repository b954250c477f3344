use Rattle.std.proofs.Common.{◌%◌, ◌/◌, arith}
use Rattle.icu_collections_sets.proofs.texts.SpellingLemmas.{IsNumber-spelling, no_low_digit, text_of_number}
use Rattle.icu_collections_sets.proofs.json.spelling.surrogate_at.Goals as goal

pub returns-in_default : goal.returns-in_default
returns-in_default c = λ s rest h e. let number = IsNumber-spelling c.args.text.now rest s h e in absurd (omega (arith, number.long))

pub returns-in_default-2 : goal.returns-in_default-2
returns-in_default-2 c = λ s rest h e. let number = IsNumber-spelling c.args.text.now rest s h e in absurd (omega (arith, number.letter))

pub returns-in_default-3 : goal.returns-in_default-3
returns-in_default-3 c = λ s rest h e. let number = IsNumber-spelling c.args.text.now rest s h e in absurd (omega (arith, number.plus))

pub returns-in_default-4 : goal.returns-in_default-4
returns-in_default-4 c = λ s rest h e. let number = IsNumber-spelling c.args.text.now rest s h e in absurd (omega (arith, number.first))

pub returns-in_err-high : goal.returns-in_err-high
returns-in_err-high c =
    rw c.from_residual.ensures (λ s rest h e. c.in_err-high.ensures (s / 256 % 16) (omega arith) (IsNumber-spelling c.args.text.now rest s h e).second)

pub returns-in_err-middle : goal.returns-in_err-middle
returns-in_err-middle c =
    rw c.from_residual-in_err-middle.ensures (λ s rest h e. c.in_err-middle.ensures (s / 16 % 16) (omega arith) (IsNumber-spelling c.args.text.now rest s h e).third)

pub returns-in_err-low : goal.returns-in_err-low
returns-in_err-low c =
    rw c.from_residual-in_err-low.ensures (λ s rest h e. c.in_err-low.ensures (s % 16) (omega arith) (IsNumber-spelling c.args.text.now rest s h e).fourth)

pub returns-then-high-lt8 : goal.returns-then-high-lt8
returns-then-high-lt8 c = λ s rest h e. no_low_digit c.args.text.now rest s c.in_ok-high.high h e c.in_ok-high.ensures.1 c.if-high-lt8.true

pub returns : goal.returns
returns c =
    let high = c.in_ok-high.ensures in
    let middle = c.in_ok-middle.ensures in
    let low = c.in_ok-low.ensures in (
      (omega (arith, high.0, middle.0, low.0), omega (arith, high.0, middle.0, low.0)),
      text_of_number c.args.text.now c.in_ok-high.high c.in_ok-middle.middle c.in_ok-low.low _ (omega arith) c.if-high-lt8.false high.0 middle.0 low.0 (omega arith) (omega arith) (omega arith) (omega arith) high.1 middle.1 low.1,
    )
