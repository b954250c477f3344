use Rattle.std.proofs.Common.{ℕ, List, map}
use Rattle.collate_lines.specs.Record.{said}
use Rattle.collate_records.specs.Phases.{AreOfFile, KeepsBelow}
use Rattle.collate_records.proofs.reader.keep_rules.Given as goal

abbrev pub invariant-loop-rank : goal.invariant-loop-rank
invariant-loop-rank l = (file : List ℕ) → AreOfFile file (map said l.records) l.numbers → KeepsBelow l.fn.limits 1 file → KeepsBelow l.fn.limits l.rank file
