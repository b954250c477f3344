use Rattle.std.proofs.Common.{[], ◌++◌, ◌∙◌, refl, arith, Ok, Err}
use Rattle.collate_run.specs.ReplyText.{reply_text}
use Rattle.collate_run.specs.Watched.{watched_inner, watched_failed}
use Rattle.collate_run.proofs.lines.CommandLineReadLemmas.{unmarked}
use Rattle.collate_run.proofs.lines.CommandLineReadyLemmas.{answers-none, answers-ready, gathers-more, gathers-none, ready-bound}
use Rattle.collate_run.proofs.buffered.answer_lines.Goals as goal

pub lines-init : goal.lines-init
lines-init g c = record {
  same = refl;
  bound = omega arith;
  done = ([], answers-none c.args.index.now, gathers-none (g.W.Write.contents (watched_inner c.args.writer.now)) c.args.waiting.now.items);
}

pub lines-preserved : goal.lines-preserved
lines-preserved g c =
    let before = c.lines.invariant in
    let w0 = g.W.Write.contents (watched_inner c.args.writer.now) in
    let w1 = g.W.Write.contents (watched_inner c.lines.writer) in
    let w2 = g.W.Write.contents (watched_inner c.put_reply.new.writer) in
    let line = c.in-Some.line.now in
    let text = reply_text c.answer_alone-reply.result in
    record {
      same = unmarked (watched_failed c.put_reply.new.writer) (watched_failed c.lines.writer) c.in-Ok.ensures.failed ∙ before.same;
      bound = ready-bound c.args.bytes.now _ line c.lines.taken before.bound refl c.in-Some.ensures;
      done = (
        before.done.0 ++ text,
        answers-ready c.args.index.now c.lines.index c.answer_alone-reply.new.index c.args.bytes.now before.done.0 line _ text c.lines.taken refl before.done.1 c.in-Some.ensures c.answer_alone-reply.ensures,
        gathers-more (Ok c.in-Ok.field-0) w0 w1 w2 tt c.args.waiting.now.items c.lines.waiting.items c.put_reply.new.waiting.items before.done.0 text before.done.2 c.in-Ok.ensures.bytes,
      );
    }

pub lines-preserved-in-Ok : goal.lines-preserved-in-Ok
lines-preserved-in-Ok g c =
    let before = c.lines.invariant in
    let w0 = g.W.Write.contents (watched_inner c.args.writer.now) in
    let w1 = g.W.Write.contents (watched_inner c.lines.writer) in
    let w2 = g.W.Write.contents (watched_inner c.put_reply.new.writer) in
    let line = c.in-Some.line.now in
    let text = reply_text c.answer_alone-reply.result in
    record {
      same = unmarked (watched_failed c.put_reply.new.writer) (watched_failed c.lines.writer) c.in-Ok.ensures.failed ∙ before.same;
      bound = ready-bound c.args.bytes.now _ line c.lines.taken before.bound refl c.in-Some.ensures;
      done = (
        before.done.0 ++ text,
        answers-ready c.args.index.now c.lines.index c.answer_alone-reply.new.index c.args.bytes.now before.done.0 line _ text c.lines.taken refl before.done.1 c.in-Some.ensures c.answer_alone-reply.ensures,
        gathers-more (Ok c.in-Ok.field-0) w0 w1 w2 tt c.args.waiting.now.items c.lines.waiting.items c.put_reply.new.waiting.items before.done.0 text before.done.2 c.in-Ok.ensures.bytes,
      );
    }

pub returns-in-Err-clause-answered : goal.returns-in-Err-clause-answered
returns-in-Err-clause-answered g c =
    let before = c.lines.invariant in
    let w0 = g.W.Write.contents (watched_inner c.args.writer.now) in
    let w1 = g.W.Write.contents (watched_inner c.lines.writer) in
    let w2 = g.W.Write.contents (watched_inner c.put_reply.new.writer) in
    let line = c.in-Some.line.now in
    let text = reply_text c.answer_alone-reply.result in (
      before.done.0 ++ text,
      answers-ready c.args.index.now c.lines.index c.answer_alone-reply.new.index c.args.bytes.now before.done.0 line _ text c.lines.taken refl before.done.1 c.in-Some.ensures c.answer_alone-reply.ensures,
      gathers-more (Err c.in-Err.fault) w0 w1 w2 tt c.args.waiting.now.items c.lines.waiting.items c.put_reply.new.waiting.items before.done.0 text before.done.2 c.in-Err.ensures.bytes,
    )
