use Rattle.std.proofs.Common.{Err, subst}
use Rattle.collate_run.specs.Buffered.{Gathers}
use Rattle.collate_run.specs.Watched.{watched_inner}
use Rattle.collate_run.proofs.lines.CommandLineReadLemmas.{sent-all}
use Rattle.collate_run.proofs.lines.CommandLineReadyLemmas.{gathers-failed, gathers-sent, gathers-waits, waits-all, waits-none}
use Rattle.collate_run.proofs.buffered.put.Goals as goal

pub returns-then-waits-clause-bytes : goal.returns-then-waits-clause-bytes
returns-then-waits-clause-bytes g c =
    let waited = c.args.waiting.now.items in
    let bytes = c.args.bytes.now in
    gathers-waits tt (g.W.Write.contents (watched_inner c.args.writer.now)) waited c.waits.new.waiting.items bytes (waits-all c.waits.result waited c.waits.new.waiting.items bytes c.if-waits.true c.waits.ensures)

pub returns-in-Ok-clause-bytes : goal.returns-in-Ok-clause-bytes
returns-in-Ok-clause-bytes g c =
    let w0 = g.W.Write.contents (watched_inner c.args.writer.now) in
    let w1 = g.W.Write.contents (watched_inner c.send.new.writer) in
    let w2 = g.W.Write.contents (watched_inner c.write_whole.new.writer) in
    let bytes = c.args.bytes.now in
    let waited = c.waits.new.waiting.items in
    let same = waits-none c.waits.result c.args.waiting.now.items waited bytes c.if-waits.false c.waits.ensures in
    subst (λ waits. Gathers c.write_whole.result w0 w2 waits c.send.new.waiting.items bytes) same
    (gathers-sent c.write_whole.result w0 w1 w2 waited c.send.new.waiting.items bytes c.in-Ok.ensures.none (sent-all c.in-Ok.field-0 w0 w1 waited c.in-Ok.ensures.bytes) c.write_whole.ensures.bytes)

pub returns-in-Err-clause-bytes : goal.returns-in-Err-clause-bytes
returns-in-Err-clause-bytes g c =
    let w0 = g.W.Write.contents (watched_inner c.args.writer.now) in
    let w1 = g.W.Write.contents (watched_inner c.send.new.writer) in
    let bytes = c.args.bytes.now in
    let waited = c.waits.new.waiting.items in
    let same = waits-none c.waits.result c.args.waiting.now.items waited bytes c.if-waits.false c.waits.ensures in
    subst (λ waits. Gathers (Err c.in-Err.fault) w0 w1 waits c.send.new.waiting.items bytes) same (gathers-failed c.in-Err.fault w0 w1 waited c.send.new.waiting.items bytes c.in-Err.ensures.bytes)
