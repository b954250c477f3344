use Rattle.std.proofs.Common.{◌≡◌, ◌<◌, ◌^◌, drop}
use Rattle.collate_lines.specs.Grammar.{number_after, decimal_digit, decimal_number}
use Rattle.collate_run.proofs.replies.decimal.Given as goal

-- The number so far and the digits that are left write the whole number.
abbrev pub invariant-loop-digit : goal.invariant-loop-digit
invariant-loop-digit l =
    (number_after 10 decimal_digit l.number (drop l.digit-index l.digits) ≡ decimal_number l.digits) × (l.number < 10 ^ l.digit-index)
