-- What is kept of characters that are found out: something of each code point, and what is known is so.
use Rattle.std.specs.Prelude.{◌≡◌, length}
use Rattle.collate_records.specs.Differences.{TwoFiles}
use Rattle.collate_index.specs.Changes.{AreKnown}
use Rattle.collate_index.specs.declared.changes.Changes.TheInside.{Inside}

abbrev pub files_inside : Inside → TwoFiles
files_inside s = s.differences

pub record IsKept (s : Inside) : Type 0 where
  pub known : AreKnown s.differences s.known.items
  pub room : length s.known.items ≡ 0x110000
