use Rattle.std.proofs.Common.{arith}
use Rattle.collate_run.proofs.bytes.ContentLemmas.{taken_bytes}
use Rattle.collate_run.proofs.program.contents.Goals as goal

pub returns-in-Ok : goal.returns-in-Ok
returns-in-Ok g c =
    taken_bytes g.F.Read.remaining c.take.result c.args.file c.saturating_add-most.result c.args.limits.bytes
    c.new-bytes.result.items c.read_to_end.new.buf.items c.take.ensures.limit c.take.ensures.inner c.new-bytes.ensures.items
    (omega (arith, c.saturating_add-most.ensures)) (omega (arith, c.read_to_end.new.buf.ok.0, c.read_to_end.new.buf.small)) c.in-Ok.ensures.bytes
