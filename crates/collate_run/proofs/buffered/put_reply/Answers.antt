use Rattle.std.proofs.Common.{subst}
use Rattle.collate_run.specs.Buffered.{Gathers}
use Rattle.collate_run.specs.ReplyText.{reply_text}
use Rattle.collate_run.specs.Watched.{watched_inner}
use Rattle.collate_run.proofs.lines.CommandLineReadLemmas.{sent-all}
use Rattle.collate_run.proofs.lines.CommandLineReadyLemmas.{gathers-failed, gathers-sent}
use Rattle.collate_run.proofs.buffered.put_reply.Goals as goal

pub returns-in-Some-clause-bytes : goal.returns-in-Some-clause-bytes
returns-in-Some-clause-bytes g c =
    let w0 = g.W.Write.contents (watched_inner c.args.writer.now) in
    let w1 = g.W.Write.contents (watched_inner c.put.new.writer) in
    subst (λ bytes. Gathers c.put.result w0 w1 c.args.waiting.now.items c.put.new.waiting.items bytes) c.in-Some.ensures c.put.ensures.bytes

pub returns-in-Ok-clause-bytes : goal.returns-in-Ok-clause-bytes
returns-in-Ok-clause-bytes g c =
    let w0 = g.W.Write.contents (watched_inner c.args.writer.now) in
    let w1 = g.W.Write.contents (watched_inner c.send.new.writer) in
    let w2 = g.W.Write.contents (watched_inner c.write_reply.new.writer) in
    let waited = c.args.waiting.now.items in
    gathers-sent c.write_reply.result w0 w1 w2 waited c.send.new.waiting.items (reply_text c.args.reply.now) c.in-Ok.ensures.none (sent-all c.in-Ok.field-0 w0 w1 waited c.in-Ok.ensures.bytes) c.write_reply.ensures.bytes

pub returns-in-Err-clause-bytes : goal.returns-in-Err-clause-bytes
returns-in-Err-clause-bytes g c =
    gathers-failed c.in-Err.fault (g.W.Write.contents (watched_inner c.args.writer.now)) (g.W.Write.contents (watched_inner c.send.new.writer))
    c.args.waiting.now.items c.send.new.waiting.items (reply_text c.args.reply.now) c.in-Err.ensures.bytes
