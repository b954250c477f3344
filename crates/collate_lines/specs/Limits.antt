-- The limits of a records file: how many bytes it has, how many code points its lines name, and how many lines say something.
use Rattle.std.specs.Prelude.{ℕ}
use Rattle.collate_lines.specs.declared.limits.Limits.{Limits}

-- the limits of every file that is read without others
abbrev pub standard : Limits
standard = record { bytes = 1048576; code_points = 150; records = 1000 }

-- limits for the whole of Unicode
abbrev pub unicode : Limits
unicode = record { bytes = 67108864; code_points = 1114112; records = 1114112 }
