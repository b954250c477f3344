use Rattle.std.proofs.Common.{◌≡◌, ℕ, List}
use Rattle.std.specs.Io.KnownBytes.{Consumes}
use Rattle.collate_run.specs.Reading.{SpellsRequest}
use Rattle.collate_run.specs.Replies.{behind}
use Rattle.collate_run.specs.Watched.{watched_inner, watched_failed}
use Rattle.collate_run.proofs.run.next_request.Given as goal

-- the line has been read, and so many record lines after it
abbrev pub invariant-loop : goal.invariant-loop
invariant-loop g l = record {
  same : watched_failed l.reader ≡ watched_failed l.fn.reader;
  limit : l.request.limit ≡ l.limit;
  asked : l.wanted ≡ behind l.request.line.items;
  so_far : (bytes : List ℕ)
      × Consumes (g.R.Read.remaining (watched_inner l.fn.reader)) (g.R.Read.remaining (watched_inner l.reader)) bytes
      × SpellsRequest l.request l.counter (g.R.Read.remaining (watched_inner l.reader)) l.fn.count l.count bytes;
}
