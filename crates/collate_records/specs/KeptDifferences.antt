-- What differences keep beside the two files.
use Rattle.std.specs.Prelude.{◌≡◌, ◌++◌, map}
use Rattle.collate_lines.specs.Record.{said}
use Rattle.collate_records.specs.Differences.{AreDiffering, TwoFiles}
use Rattle.collate_records.specs.declared.differences.Differences.TheInside.{Inside}

abbrev pub files_inside : Inside → TwoFiles
files_inside s = record { before = s.before.now.lines; after = s.after.now.lines }

-- The lines of both files are noted, and the characters with which texts begin that they record otherwise.
pub record IsKept (s : Inside) : Type 0 where
  pub before : map said s.noted_before.lines.now ≡ s.before.now.lines
  pub after : map said s.noted_after.lines.now ≡ s.after.now.lines
  pub differing : AreDiffering s.before.now.lines s.after.now.lines (s.before.now.lines ++ s.after.now.lines) s.differing
