use Rattle.std.proofs.Common.{arith}
use Rattle.icu_normalizer.specs.Sinks.{nothing, more}
use Rattle.icu_normalizer.proofs.writing.WriterLemmas.{on_any, due_kept, starter_written, starter_cut, held_cut}
use Rattle.icu_normalizer.proofs.decomposing.writer.Writer.add.Goals as goal

pub returns-in-Ok-clause-ok : goal.returns-in-Ok-clause-ok
returns-in-Ok-clause-ok g c = due_kept g.T.Text.encode g.met.T.Text.encoding c.args.self.now c.hold.new.self _ _ c.in-Ok.ensures.ok

pub returns-in-Ok-clause-failure : goal.returns-in-Ok-clause-failure
returns-in-Ok-clause-failure g c = nothing _

pub returns-in-Err-clause-failure : goal.returns-in-Err-clause-failure
returns-in-Err-clause-failure g c = nothing _

pub returns-in_err-flush-clause-err : goal.returns-in_err-flush-clause-err
returns-in_err-flush-clause-err g c =
    on_any c.from_residual.result (held_cut g.T.Text.encode g.met.T.Text.encoding c.args.self.now c.args.c _ _ (omega arith) c.in_err-flush.ensures.err)

pub returns-in-Ok-write_char-clause-ok : goal.returns-in-Ok-write_char-clause-ok
returns-in-Ok-write_char-clause-ok g c =
    starter_written g.T.Text.encode g.met.T.Text.encoding c.args.self.now c.flush.new.self c.args.c _ _ _ c.in_ok-flush.ensures.same (omega arith) c.in_ok-flush.ensures.empty c.in_ok-flush.ensures.ok c.in-Ok-write_char.ensures.ok

pub returns-in-Ok-write_char-clause-failure : goal.returns-in-Ok-write_char-clause-failure
returns-in-Ok-write_char-clause-failure g c = more _ _ _ c.in_ok-flush.ensures.failure c.in-Ok-write_char.ensures.taken

pub returns-in-Err-write_char-clause-err : goal.returns-in-Err-write_char-clause-err
returns-in-Err-write_char-clause-err g c =
    starter_cut g.T.Text.encode g.met.T.Text.encoding c.args.self.now c.args.c _ _ _ (omega arith) c.in_ok-flush.ensures.ok c.in-Err-write_char.ensures.err
