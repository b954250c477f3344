use Rattle.collate_run.specs.Watched.{watched_inner}
use Rattle.collate_run.proofs.lines.CommandLineReadLemmas.{sent-kept}
use Rattle.collate_run.proofs.buffered.show.Goals as goal

pub returns-in-Ok-clause-bytes : goal.returns-in-Ok-clause-bytes
returns-in-Ok-clause-bytes g c =
    let w0 = g.W.Write.contents (watched_inner c.args.writer.now) in
    let w1 = g.W.Write.contents (watched_inner c.send.new.writer) in
    let w2 = g.W.Write.contents (watched_inner c.flush.new.writer) in
    sent-kept c.in-Ok.field-0 c.flush.result w0 w1 w2 c.args.waiting.now.items c.in-Ok.ensures.bytes c.flush.ensures.bytes
