-- The standard limits by themselves, without what tables have room for.
use Rattle.std.specs.Prelude.{ℕ, ◌+◌, ◌<◌, ◌⊎◌, List, filter, length, take}
use Rattle.collate_lines.specs.Record.{Record}
use Rattle.collate_lines.specs.Repeats.{record_at, says_something}
use Rattle.collate_rules.specs.Rules.{IsLong, names_in}

-- the lines up to line i name over 150 code points, or over 1,000 of them say something, or this one lists over eight
-- characters or elements
abbrev pub PassesStandard : List Record → ℕ → Type 0
PassesStandard records i =
    let lines = take (i + 1) records
    in (150 < names_in lines) ⊎ ((1000 < length (filter says_something lines)) ⊎ IsLong (record_at records i))
