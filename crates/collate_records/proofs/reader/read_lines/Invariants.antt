use Rattle.std.proofs.Common.{◌≡◌, drop, length}
use Rattle.collate_lines.specs.Lines.{lines_left, lines_of}
use Rattle.collate_records.specs.Phases.{AreSound, IsReadTo}
use Rattle.collate_records.proofs.reader.read_lines.Given as goal

abbrev pub invariant-loop-left : goal.invariant-loop-left
invariant-loop-left l = record {
  left : drop l.number (lines_of l.fn.bytes) ≡ lines_left l.left;
  read : IsReadTo l.fn.bytes l.number l.reading;
  sound : AreSound l.fn.limits l.fn.bytes l.number;
}

abbrev pub decreases-loop-left : goal.decreases-loop-left
decreases-loop-left l = length (lines_left l.left)
