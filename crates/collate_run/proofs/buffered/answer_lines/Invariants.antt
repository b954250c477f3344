use Rattle.std.proofs.Common.{◌≡◌, ◌-◌, ◌≤◌, ℕ, Ok, List, length, take}
use Rattle.collate_run.specs.Buffered.{AnswersLines, Gathers}
use Rattle.collate_run.specs.Watched.{watched_inner, watched_failed}
use Rattle.collate_run.specs.declared.run.RunFault.{RunFault}
use Rattle.collate_run.proofs.buffered.answer_lines.Given as goal

abbrev pub invariant-lines : goal.invariant-lines
invariant-lines g l = record {
  same : watched_failed l.writer ≡ watched_failed l.fn.writer;
  bound : l.taken ≤ length l.bytes;
  done : (text : List ℕ)
      × AnswersLines l.fn.index l.index (take l.taken l.bytes) text
      × Gathers {E = RunFault} (Ok tt) (g.W.Write.contents (watched_inner l.fn.writer)) (g.W.Write.contents (watched_inner l.writer)) l.fn.waiting.items l.waiting.items text;
}

abbrev pub decreases-lines : goal.decreases-lines
decreases-lines g l = length l.bytes - l.taken
