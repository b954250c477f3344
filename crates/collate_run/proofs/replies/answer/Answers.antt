use Rattle.std.proofs.Common.{Ok, Err, subst}
use Rattle.collate_index.specs.Reloads.{IsRefused}
use Rattle.collate_run.proofs.commands.CommandAnswerLemmas.{answers-reload}
use Rattle.collate_run.proofs.replies.answer.Goals as goal

pub returns-in-Ok-reload : goal.returns-in-Ok-reload
returns-in-Ok-reload c = λ file kept.
    let h = c.in-Ok-reload.ensures in
    answers-reload c.args.line.now file c.in-Reload.field-0 c.args.records c.in-Some.file c.args.index.now c.reload.new.self (Ok c.in-Ok-reload.made)
    c.in-Reload.ensures c.in-Some.is kept (h.accepted, h.reloaded, h.made)

pub returns-in-Err-Record : goal.returns-in-Err-Record
returns-in-Err-Record c = λ file kept.
    let h = c.in-Err-Record.ensures in
    answers-reload c.args.line.now file c.in-Reload.field-0 c.args.records c.in-Some.file c.args.index.now c.reload.new.self (Err c.in-Err-Record.fault)
    c.in-Reload.ensures c.in-Some.is kept (subst (IsRefused c.args.index.now.limits c.in-Some.file.now) c.in-Err-Record.field-0-is h.refused, h.unchanged)
