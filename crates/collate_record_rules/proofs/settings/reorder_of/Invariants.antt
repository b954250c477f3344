use Rattle.std.proofs.Common.{◌≡◌, drop, map}
use Rattle.collate_lines.specs.Record.{said}
use Rattle.collate_rules.specs.SettingLines.{reorder_of}
use Rattle.collate_record_rules.proofs.settings.reorder_of.Given as goal

abbrev pub invariant-loop-line : goal.invariant-loop-line
invariant-loop-line l =
    reorder_of (map said (drop l.line-index l.lines))
    ≡ reorder_of (map said l.lines)
