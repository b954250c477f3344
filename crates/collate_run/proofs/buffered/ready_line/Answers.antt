use Rattle.std.proofs.Common.{take, refl, sym, arith}
use Rattle.collate_run.proofs.lines.CommandLineReadyLemmas.{ready-line}
use Rattle.collate_run.proofs.buffered.ready_line.Goals as goal

pub returns : goal.returns
returns c =
    ready-line c.args.bytes.now (take c.in-Some.end c.args.bytes.now) c.in-Some.end (sym c.in-Some.ensures.index) refl
    (omega (arith, c.if-line-gt-LINE_LIMIT.false)) (omega (arith, c.if-records_behind-gt0.false, c.records_behind.ensures))
