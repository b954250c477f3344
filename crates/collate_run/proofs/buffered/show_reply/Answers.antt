use Rattle.collate_run.specs.ReplyText.{reply_text}
use Rattle.collate_run.specs.Watched.{watched_inner}
use Rattle.collate_run.proofs.lines.CommandLineReadLemmas.{sent-kept}
use Rattle.collate_run.proofs.buffered.show_reply.Goals as goal

pub returns-in-Ok-clause-bytes : goal.returns-in-Ok-clause-bytes
returns-in-Ok-clause-bytes g c =
    let w0 = g.W.Write.contents (watched_inner c.args.writer.now) in
    let w1 = g.W.Write.contents (watched_inner c.write_reply.new.writer) in
    let w2 = g.W.Write.contents (watched_inner c.flush.new.writer) in
    sent-kept c.in-Ok.field-0 c.flush.result w0 w1 w2 (reply_text c.args.reply.now) c.in-Ok.ensures.bytes c.flush.ensures.bytes
