use Rattle.std.proofs.Common.{◌≡◌, drop, map}
use Rattle.collate_lines.specs.Record.{said}
use Rattle.collate_rules.specs.SettingLines.{compress_of}
use Rattle.collate_record_rules.proofs.settings.compress_of.Given as goal

abbrev pub invariant-loop-line : goal.invariant-loop-line
invariant-loop-line l =
    compress_of (map said (drop l.line-index l.lines))
    ≡ compress_of (map said l.lines)
