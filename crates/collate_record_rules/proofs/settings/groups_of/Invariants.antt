use Rattle.std.proofs.Common.{◌≡◌, drop, map}
use Rattle.collate_lines.specs.Record.{said}
use Rattle.collate_rules.specs.SettingLines.{groups_of}
use Rattle.collate_record_rules.proofs.settings.groups_of.Given as goal

abbrev pub invariant-loop-line : goal.invariant-loop-line
invariant-loop-line l =
    groups_of (map said (drop l.line-index l.lines))
    ≡ groups_of (map said l.lines)
