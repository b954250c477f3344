use Rattle.std.proofs.Common.{◌≡◌, ◌<◌, ◌^◌, drop}
use Rattle.collate_lines.specs.Grammar.{number_after, hex_digit, hex_number}
use Rattle.collate_lines.proofs.fields.hexadecimal.Given as goal

-- The number so far and the digits that are left write the whole number.
abbrev pub invariant-loop-byte : goal.invariant-loop-byte
invariant-loop-byte l =
    (number_after 16 hex_digit l.number (drop l.byte-index l.digits) ≡ hex_number l.digits) × (l.number < 16 ^ l.byte-index)
