use Rattle.std.proofs.Common.{◌≡◌, drop, take}
use Rattle.collate_lines.specs.Grammar.{parted}
use Rattle.collate_lines.proofs.reading.FormLemmas.{bytes_of, parted_after}
use Rattle.collate_lines.proofs.list_fields.split_at_word.Given as goal

-- The word doesn't stand in the fields so far.
abbrev pub invariant-loop-i : goal.invariant-loop-i
invariant-loop-i l =
    parted l.word (bytes_of l.fields) ≡ parted_after (take l.i l.fields) (parted l.word (bytes_of (drop l.i l.fields)))
