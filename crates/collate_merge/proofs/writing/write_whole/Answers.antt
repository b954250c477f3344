use Rattle.std.proofs.Common.{[], ◌++◌, refl, take}
use Rattle.collate_merge.proofs.SendingLemmas.{Appends-none, Appends-then, more-sent}
use Rattle.collate_merge.proofs.writing.write_whole.Goals as goal

pub writes-init : goal.writes-init
writes-init g c = ([], refl, Appends-none (g.W.Write.contents c.args.writer.now))

pub writes-preserved : goal.writes-preserved
writes-preserved g c =
    let before = c.writes.invariant in
    let w = g.W.Write.contents in (
      before.0 ++ take c.in-Ok.taken c.writes.rest.now,
      more-sent c.args.bytes.now before.0 c.writes.rest.now c.in-Ok.taken before.1,
      Appends-then (w c.args.writer.now) (w c.writes.writer) (w c.write.new.self) before.0 (take c.in-Ok.taken c.writes.rest.now) before.2 c.in-Ok.ensures.bytes,
    )
