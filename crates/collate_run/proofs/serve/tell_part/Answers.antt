use Rattle.std.proofs.Common.{◌++◌, take}
use Rattle.collate_run.proofs.bytes.KnownBytesLemmas.{Appends-then}
use Rattle.collate_run.proofs.bytes.SendingLemmas.{more-sent}
use Rattle.collate_run.proofs.serve.tell_part.Goals as goal

pub writes-preserved : goal.writes-preserved
writes-preserved g c =
    let before = c.writes.invariant in
    let w = g.E.Write.contents in (
      before.0 ++ take c.in-Ok.taken c.writes.rest.now,
      more-sent c.args.part.now before.0 c.writes.rest.now c.in-Ok.taken before.1,
      Appends-then (w c.args.errors.now) (w c.writes.errors) (w c.write.new.self) before.0 (take c.in-Ok.taken c.writes.rest.now) before.2 c.in-Ok.ensures.bytes,
    )
