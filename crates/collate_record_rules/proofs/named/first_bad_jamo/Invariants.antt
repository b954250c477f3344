use Rattle.std.proofs.Common.{map}
use Rattle.collate_lines.specs.Record.{said}
use Rattle.collate_rules.specs.RecordRules.{is_bad_jamo_record}
use Rattle.collate_record_rules.proofs.records.LineTestLemmas.{PicksNone}
use Rattle.collate_record_rules.proofs.named.first_bad_jamo.Given as goal

abbrev pub invariant-loop-i : goal.invariant-loop-i
invariant-loop-i l = PicksNone (is_bad_jamo_record (map said l.records)) l.records l.i
