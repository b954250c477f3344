use Rattle.std.proofs.Common.{map}
use Rattle.collate_lines.specs.Record.{said}
use Rattle.collate_rules.specs.RecordRules.{lacks_shorter}
use Rattle.collate_record_rules.proofs.records.LineTestLemmas.{PicksNone}
use Rattle.collate_record_rules.proofs.recorded_texts.first_lacking_shorter.Given as goal

abbrev pub invariant-loop-i : goal.invariant-loop-i
invariant-loop-i l = PicksNone (lacks_shorter (map said l.records)) l.records l.i
