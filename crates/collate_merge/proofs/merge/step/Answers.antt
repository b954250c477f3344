use Rattle.collate_merge.proofs.StepLemmas.{accepted_by, goes_on, key_of_line}
use Rattle.collate_merge.proofs.merge.step.Goals as goal

pub returns-in-Ok : goal.returns-in-Ok
returns-in-Ok g c = λ m all more last same h kept.
    let x = c.args.source.now.line.items in
    let key_is = key_of_line m x c.line.result.0.now c.line.result.1.now c.args.source.now.key.items c.line.ensures.line c.line.ensures.key h.key_is in
    let accepted = accepted_by m c.args.order.now same.0 c.keep_rules.ensures in
    goes_on g.R.Read.remaining m all x more last c.args.index c.put.result c.put.new.self (g.W.Write.contents c.args.writer.now) (g.W.Write.contents c.put.new.writer) c.line.result.0.now
    c.line.ensures.line (c.put.ensures.sent m last accepted kept key_is) c.in-Ok.field-0 c.in-Ok.is (c.put.ensures.kept m last accepted kept key_is)
    c.advance.result c.advance.new.self (c.advance.ensures m all more same h)
