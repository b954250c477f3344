use Rattle.std.proofs.Common.{◌≡◌, ◌+◌, ◌-◌, ◌≤◌, length}
use Rattle.std.specs.Io.KnownBytes.{Consumes}
use Rattle.collate_run.specs.Reading.{IsUnended}
use Rattle.collate_run.specs.Runs.{input_limit, line_limit}
use Rattle.collate_run.specs.Watched.{watched_inner, watched_failed}
use Rattle.collate_run.proofs.run.next_line.Given as goal

abbrev pub invariant-bytes : goal.invariant-bytes
invariant-bytes g l = record {
  same : watched_failed l.reader ≡ watched_failed l.fn.reader;
  taken : Consumes (g.R.Read.remaining (watched_inner l.fn.reader)) (g.R.Read.remaining (watched_inner l.reader)) l.bytes.items;
  unended : IsUnended l.bytes.items;
  counted : l.count ≡ l.fn.count + length l.bytes.items;
  within : l.count ≤ input_limit;
  short : length l.bytes.items ≤ line_limit;
}

abbrev pub decreases-bytes : goal.decreases-bytes
decreases-bytes g l = input_limit - l.count
