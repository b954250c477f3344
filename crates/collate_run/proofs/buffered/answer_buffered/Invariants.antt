use Rattle.std.proofs.Common.{◌≡◌, ◌-◌, false, true, []}
use Rattle.collate_run.specs.Runs.{input_limit}
use Rattle.collate_run.specs.Watched.{watched_inner, watched_failed, watched_flushed}
use Rattle.collate_run.proofs.lines.CommandLineRunLemmas.{Progress}
use Rattle.collate_run.proofs.buffered.answer_buffered.Given as goal

abbrev pub invariant-requests : goal.invariant-requests
invariant-requests g l = record {
  reader : watched_failed l.reader ≡ false;
  writer : watched_failed l.writer ≡ false;
  flushed : watched_flushed l.fn.writer ≡ true → watched_flushed l.writer ≡ true;
  none : l.waiting.items ≡ [];
  progress : Progress l.fn.index l.index
      (g.R.Read.remaining (watched_inner l.fn.reader)) (g.R.Read.remaining (watched_inner l.reader))
      (g.W.Write.contents (watched_inner l.fn.writer)) (g.W.Write.contents (watched_inner l.writer))
      l.count;
}

abbrev pub decreases-requests : goal.decreases-requests
decreases-requests g l = input_limit - l.count
