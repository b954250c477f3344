-- How many things a line of the grammar lists, where the rules rely on it.
use Rattle.std.specs.Prelude.{◌≡◌, ◌≤◌, length}
use Rattle.collate_lines.specs.Record.{Record, mapping, setting, groups}

-- a mapping is to one character at least, and groups are four
abbrev pub KeepsCounts : Record → Type 0
KeepsCounts (mapping c ds is_excluded) = 1 ≤ length ds
KeepsCounts (setting (groups ends)) = length ends ≡ 4
KeepsCounts _ = Unit {0}
