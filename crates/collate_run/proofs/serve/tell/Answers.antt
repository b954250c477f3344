use Rattle.std.proofs.Common.{[]}
use Rattle.collate_run.proofs.bytes.KnownBytesLemmas.{Appends-none}
use Rattle.collate_run.proofs.lines.CommandLineReadLemmas.{sent-all}
use Rattle.collate_run.proofs.bytes.TellingLemmas.{told-more, told-front}
use Rattle.collate_run.proofs.serve.tell.Goals as goal

pub loop-part-init : goal.loop-part-init
loop-part-init g c = Appends-none (g.E.Write.contents c.args.errors.now)

pub loop-part-preserved : goal.loop-part-preserved
loop-part-preserved g c =
    let w = g.E.Write.contents in
    told-more (λ part. part.now) c.args.parts.now c.loop-part.part-index (record { ref_ptr = (0, 0); now = [] }) c.loop-part-test.true
    (w c.args.errors.now) (w c.loop-part.errors) (w c.tell_part.new.errors) c.loop-part.invariant
    (sent-all c.in-Ok.field-0 (w c.loop-part.errors) (w c.tell_part.new.errors) _ c.in-Ok.ensures)

pub returns-in-Err : goal.returns-in-Err
returns-in-Err g c =
    let w = g.E.Write.contents in
    told-front (λ part. part.now) c.args.parts.now c.loop-part.part-index (record { ref_ptr = (0, 0); now = [] }) c.loop-part-test.true
    c.tell_part.result (w c.args.errors.now) (w c.loop-part.errors) (w c.tell_part.new.errors) c.loop-part.invariant c.tell_part.ensures
