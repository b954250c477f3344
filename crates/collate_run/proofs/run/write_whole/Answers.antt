use Rattle.std.proofs.Common.{◌++◌, take, ◌∙◌}
use Rattle.collate_run.specs.Watched.{watched_inner, watched_failed}
use Rattle.collate_run.proofs.bytes.KnownBytesLemmas.{Appends-then}
use Rattle.collate_run.proofs.bytes.SendingLemmas.{more-sent, still-same}
use Rattle.collate_run.proofs.run.write_whole.Goals as goal

pub writes-preserved : goal.writes-preserved
writes-preserved g c =
    let before = c.writes.invariant in
    let w = g.W.Write.contents in (
      still-same (watched_failed c.write.new.self) (watched_failed c.writes.writer) c.in-Ok.taken c.if-taken-gt0.true c.in-Ok.ensures.failed ∙ before.0,
      before.1 ++ take c.in-Ok.taken c.writes.rest.now,
      more-sent c.args.bytes.now before.1 c.writes.rest.now c.in-Ok.taken before.2,
      Appends-then (w (watched_inner c.args.writer.now)) (w (watched_inner c.writes.writer)) (w (watched_inner c.write.new.self))
          before.1 (take c.in-Ok.taken c.writes.rest.now) before.3 c.in-Ok.ensures.bytes,
    )
