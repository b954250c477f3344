use Rattle.std.proofs.Common.{◌≡◌, flat_map, take}
use Rattle.std.specs.Io.KnownBytes.{Appends}
use Rattle.collate_run.specs.Watched.{watched_inner, watched_failed}
use Rattle.collate_run.proofs.run.write_parts.Given as goal

abbrev pub invariant-loop-part : goal.invariant-loop-part
invariant-loop-part g l = record {
  same : watched_failed l.writer ≡ watched_failed l.fn.writer;
  sent : Appends (g.W.Write.contents (watched_inner l.fn.writer)) (g.W.Write.contents (watched_inner l.writer)) (flat_map (λ part. part.now) (take l.part-index l.parts));
}
