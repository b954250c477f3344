use Rattle.std.proofs.Common.{[], ◌∙◌, refl}
use Rattle.collate_run.specs.Watched.{watched_inner, watched_failed}
use Rattle.collate_run.proofs.bytes.KnownBytesLemmas.{Appends-none}
use Rattle.collate_run.proofs.bytes.TellingLemmas.{sent-front, told-more}
use Rattle.collate_run.proofs.lines.CommandLineReadLemmas.{sent-all, unmarked}
use Rattle.collate_run.proofs.run.write_parts.Goals as goal

pub loop-part-init : goal.loop-part-init
loop-part-init g c = record { same = refl; sent = Appends-none (g.W.Write.contents (watched_inner c.args.writer.now)) }

pub loop-part-preserved : goal.loop-part-preserved
loop-part-preserved g c =
    let w = g.W.Write.contents in
    record {
      same = unmarked (watched_failed c.write_whole.new.writer) (watched_failed c.loop-part.writer) c.in-Ok.ensures.failed ∙ c.loop-part.invariant.same;
      sent = told-more (λ part. part.now) c.args.parts.now c.loop-part.part-index (record { ref_ptr = (0, 0); now = [] }) c.loop-part-test.true
          (w (watched_inner c.args.writer.now)) (w (watched_inner c.loop-part.writer)) (w (watched_inner c.write_whole.new.writer)) c.loop-part.invariant.sent
          (sent-all c.in-Ok.field-0 (w (watched_inner c.loop-part.writer)) (w (watched_inner c.write_whole.new.writer)) _ c.in-Ok.ensures.bytes);
    }

pub returns-in-Err-clause-bytes : goal.returns-in-Err-clause-bytes
returns-in-Err-clause-bytes g c =
    let w = g.W.Write.contents in
    sent-front (λ part. part.now) c.args.parts.now c.loop-part.part-index (record { ref_ptr = (0, 0); now = [] }) c.loop-part-test.true
    c.in-Err.fault (w (watched_inner c.args.writer.now)) (w (watched_inner c.loop-part.writer)) (w (watched_inner c.write_whole.new.writer)) c.loop-part.invariant.sent c.in-Err.ensures.bytes
