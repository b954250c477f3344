use Rattle.std.proofs.Common.{[], ◌∷◌}
use Rattle.collate_merge.proofs.SendingLemmas.{sends-cut, sends-then, sent-all}
use Rattle.collate_merge.proofs.writing.write_line.Goals as goal

pub returns-in-Ok-clause-sent : goal.returns-in-Ok-clause-sent
returns-in-Ok-clause-sent g c =
    let w = g.W.Write.contents in
    sends-then c.write_whole-in-Ok.result (w c.args.writer.now) (w c.write_whole.new.writer) (w c.write_whole-in-Ok.new.writer) c.args.line.now (c.args.separator ∷ [])
    (sent-all c.write_whole.result c.in-Ok.field-0 (w c.args.writer.now) (w c.write_whole.new.writer) c.args.line.now c.in-Ok.is c.write_whole.ensures.sent)
    c.write_whole-in-Ok.ensures.sent

pub returns-in-Err-clause-sent : goal.returns-in-Err-clause-sent
returns-in-Err-clause-sent g c =
    let w = g.W.Write.contents in
    sends-cut c.write_whole.result c.in-Err.error (w c.args.writer.now) (w c.write_whole.new.writer) c.args.line.now (c.args.separator ∷ []) c.write_whole.ensures.sent
