use Rattle.std.proofs.Common.{Err, ap}
use Rattle.collate_lines.specs.declared.limits.Limits.{Limits}
use Rattle.collate_run.specs.ReplyText.{reply_text}
use Rattle.collate_run.specs.Watched.{watched_inner, watched_failed}
use Rattle.collate_run.proofs.lines.CommandLineRunLemmas.{progress-none, progress-more, ran-end, ran-cut, ran-write, ran-last}
use Rattle.collate_run.proofs.lines.CommandLineReadLemmas.{answered, limit-of, no-request, sent-all, unfailed}
use Rattle.collate_run.proofs.lines.CommandLineReadyLemmas.{progress-turn, ran-turn}
use Rattle.collate_run.proofs.buffered.answer_buffered.Goals as goal

pub requests-init : goal.requests-init
requests-init g c = record {
  reader = c.requires.reader;
  writer = c.requires.writer;
  flushed = λ before. before;
  none = c.requires.none;
  progress = progress-none c.args.index.now (g.R.Read.remaining (watched_inner c.args.reader.now)) (g.W.Write.contents (watched_inner c.args.writer.now));
}

pub returns-in-Ok-None-clause-ran : goal.returns-in-Ok-None-clause-ran
returns-in-Ok-None-clause-ran g c =
    let r0 = g.R.Read.remaining (watched_inner c.args.reader.now) in
    let r1 = g.R.Read.remaining (watched_inner c.answer_ready.new.reader) in
    let r2 = g.R.Read.remaining (watched_inner c.next_request.new.reader) in
    let w0 = g.W.Write.contents (watched_inner c.args.writer.now) in
    let w1 = g.W.Write.contents (watched_inner c.answer_ready.new.writer) in
    let rq = g.R.Read.remaining (watched_inner c.requests.reader) in
    let wq = g.W.Write.contents (watched_inner c.requests.writer) in
    let p = progress-turn c.args.index.now c.requests.index c.answer_ready.new.index r0 rq r1 w0 wq w1 c.requests.count c.answer_ready.new.count c.requests.invariant.progress c.in-Ok.field-0 c.in-Ok.ensures.answered in
    let read = c.in-Ok-None.ensures.bytes in
    let last = no-request c.in-Ok-None.field-0 r2 c.answer_ready.new.count c.next_request.new.count read.0 c.in-Ok-None.field-0-is read.2 in
    ran-end c.args.index.now c.answer_ready.new.index r0 r1 r2 w0 w1 w1 c.answer_ready.new.count p read.0 read.1 last.0 last.1

pub returns-in-Err-next_request-clause-ran : goal.returns-in-Err-next_request-clause-ran
returns-in-Err-next_request-clause-ran g c =
    let r0 = g.R.Read.remaining (watched_inner c.args.reader.now) in
    let r1 = g.R.Read.remaining (watched_inner c.answer_ready.new.reader) in
    let r2 = g.R.Read.remaining (watched_inner c.next_request.new.reader) in
    let w0 = g.W.Write.contents (watched_inner c.args.writer.now) in
    let w1 = g.W.Write.contents (watched_inner c.answer_ready.new.writer) in
    let rq = g.R.Read.remaining (watched_inner c.requests.reader) in
    let wq = g.W.Write.contents (watched_inner c.requests.writer) in
    let p = progress-turn c.args.index.now c.requests.index c.answer_ready.new.index r0 rq r1 w0 wq w1 c.requests.count c.answer_ready.new.count c.requests.invariant.progress c.in-Ok.field-0 c.in-Ok.ensures.answered in
    let read = c.in-Err-next_request.ensures.bytes in
    ran-cut c.args.index.now c.answer_ready.new.index r0 r1 r2 w0 w1 w1 c.answer_ready.new.count p c.in-Err-next_request.fault read.0 read.1 read.2

pub returns-in-Err-show_reply-clause-ran : goal.returns-in-Err-show_reply-clause-ran
returns-in-Err-show_reply-clause-ran g c =
    let r0 = g.R.Read.remaining (watched_inner c.args.reader.now) in
    let r1 = g.R.Read.remaining (watched_inner c.answer_ready.new.reader) in
    let r2 = g.R.Read.remaining (watched_inner c.next_request.new.reader) in
    let w0 = g.W.Write.contents (watched_inner c.args.writer.now) in
    let w1 = g.W.Write.contents (watched_inner c.answer_ready.new.writer) in
    let w2 = g.W.Write.contents (watched_inner c.show_reply.new.writer) in
    let rq = g.R.Read.remaining (watched_inner c.requests.reader) in
    let wq = g.W.Write.contents (watched_inner c.requests.writer) in
    let p = progress-turn c.args.index.now c.requests.index c.answer_ready.new.index r0 rq r1 w0 wq w1 c.requests.count c.answer_ready.new.count c.requests.invariant.progress c.in-Ok.field-0 c.in-Ok.ensures.answered in
    let read = c.in-Ok-Some.ensures.bytes in
    let limited = limit-of c.in-Ok-Some.field-0 c.limits-limit.result.bytes c.answer_ready.new.index.limits.bytes (ap (λ (limits : Limits). limits.bytes) c.limits-limit.ensures) c.in-Ok-Some.ensures.limit in
    let got = answered c.in-Ok-Some.field-0 c.in-Ok-Some.asked r2 c.answer_ready.new.count c.next_request.new.count read.0 c.deref.result.now c.as_deref.result c.answer_ready.new.index c.answer-reply.new.index (reply_text c.answer-reply.result)
    c.in-Ok-Some.field-0-is read.2 c.deref.ensures.value c.as_deref.ensures.value limited c.answer-reply.ensures in
    ran-write c.args.index.now c.answer_ready.new.index r0 r1 r2 w0 w1 w2 c.answer_ready.new.count p c.in-Ok-Some.asked read.0 read.1 c.next_request.new.count got.spells
    c.answer-reply.new.index (reply_text c.answer-reply.result) got.answers (Err c.in-Err-show_reply.fault) c.in-Err-show_reply.fault c.in-Err-show_reply.ensures.fault c.in-Err-show_reply.ensures.bytes

pub returns-then-not-asked-clause-ran : goal.returns-then-not-asked-clause-ran
returns-then-not-asked-clause-ran g c =
    let r0 = g.R.Read.remaining (watched_inner c.args.reader.now) in
    let r1 = g.R.Read.remaining (watched_inner c.answer_ready.new.reader) in
    let r2 = g.R.Read.remaining (watched_inner c.next_request.new.reader) in
    let w0 = g.W.Write.contents (watched_inner c.args.writer.now) in
    let w1 = g.W.Write.contents (watched_inner c.answer_ready.new.writer) in
    let w2 = g.W.Write.contents (watched_inner c.show_reply.new.writer) in
    let rq = g.R.Read.remaining (watched_inner c.requests.reader) in
    let wq = g.W.Write.contents (watched_inner c.requests.writer) in
    let p = progress-turn c.args.index.now c.requests.index c.answer_ready.new.index r0 rq r1 w0 wq w1 c.requests.count c.answer_ready.new.count c.requests.invariant.progress c.in-Ok.field-0 c.in-Ok.ensures.answered in
    let read = c.in-Ok-Some.ensures.bytes in
    let limited = limit-of c.in-Ok-Some.field-0 c.limits-limit.result.bytes c.answer_ready.new.index.limits.bytes (ap (λ (limits : Limits). limits.bytes) c.limits-limit.ensures) c.in-Ok-Some.ensures.limit in
    let got = answered c.in-Ok-Some.field-0 c.in-Ok-Some.asked r2 c.answer_ready.new.count c.next_request.new.count read.0 c.deref.result.now c.as_deref.result c.answer_ready.new.index c.answer-reply.new.index (reply_text c.answer-reply.result)
    c.in-Ok-Some.field-0-is read.2 c.deref.ensures.value c.as_deref.ensures.value limited c.answer-reply.ensures in
    ran-last c.args.index.now c.answer_ready.new.index r0 r1 r2 w0 w1 w2 c.answer_ready.new.count p c.in-Ok-Some.asked read.0 read.1 c.next_request.new.count got.spells
    c.answer-reply.new.index (reply_text c.answer-reply.result) got.answers c.if-not-asked.true (sent-all c.in-Ok-show_reply.field-0 w1 w2 (reply_text c.answer-reply.result) c.in-Ok-show_reply.ensures.bytes)

pub requests-preserved : goal.requests-preserved
requests-preserved g c =
    let r0 = g.R.Read.remaining (watched_inner c.args.reader.now) in
    let r1 = g.R.Read.remaining (watched_inner c.answer_ready.new.reader) in
    let r2 = g.R.Read.remaining (watched_inner c.next_request.new.reader) in
    let w0 = g.W.Write.contents (watched_inner c.args.writer.now) in
    let w1 = g.W.Write.contents (watched_inner c.answer_ready.new.writer) in
    let w2 = g.W.Write.contents (watched_inner c.show_reply.new.writer) in
    let rq = g.R.Read.remaining (watched_inner c.requests.reader) in
    let wq = g.W.Write.contents (watched_inner c.requests.writer) in
    let p = progress-turn c.args.index.now c.requests.index c.answer_ready.new.index r0 rq r1 w0 wq w1 c.requests.count c.answer_ready.new.count c.requests.invariant.progress c.in-Ok.field-0 c.in-Ok.ensures.answered in
    let read = c.in-Ok-Some.ensures.bytes in
    let limited = limit-of c.in-Ok-Some.field-0 c.limits-limit.result.bytes c.answer_ready.new.index.limits.bytes (ap (λ (limits : Limits). limits.bytes) c.limits-limit.ensures) c.in-Ok-Some.ensures.limit in
    let got = answered c.in-Ok-Some.field-0 c.in-Ok-Some.asked r2 c.answer_ready.new.count c.next_request.new.count read.0 c.deref.result.now c.as_deref.result c.answer_ready.new.index c.answer-reply.new.index (reply_text c.answer-reply.result)
    c.in-Ok-Some.field-0-is read.2 c.deref.ensures.value c.as_deref.ensures.value limited c.answer-reply.ensures in
    record {
      reader = unfailed (watched_failed c.next_request.new.reader) (watched_failed c.answer_ready.new.reader) c.in-Ok-Some.ensures.failed (unfailed (watched_failed c.answer_ready.new.reader) (watched_failed c.requests.reader) c.in-Ok.ensures.reader c.requests.invariant.reader);
      writer = unfailed (watched_failed c.show_reply.new.writer) (watched_failed c.answer_ready.new.writer) c.in-Ok-show_reply.ensures.failed (unfailed (watched_failed c.answer_ready.new.writer) (watched_failed c.requests.writer) c.in-Ok.ensures.writer c.requests.invariant.writer);
      flushed = λ before. c.in-Ok-show_reply.ensures.flushed;
      none = c.in-Ok.ensures.none;
      progress = progress-more c.args.index.now c.answer_ready.new.index r0 r1 r2 w0 w1 w2 c.answer_ready.new.count p c.in-Ok-Some.asked read.0 read.1 c.next_request.new.count got.spells
          c.answer-reply.new.index (reply_text c.answer-reply.result) got.answers c.if-not-asked.false (sent-all c.in-Ok-show_reply.field-0 w1 w2 (reply_text c.answer-reply.result) c.in-Ok-show_reply.ensures.bytes);
    }

pub requests-preserved-else-not-asked : goal.requests-preserved-else-not-asked
requests-preserved-else-not-asked g c =
    let r0 = g.R.Read.remaining (watched_inner c.args.reader.now) in
    let r1 = g.R.Read.remaining (watched_inner c.answer_ready.new.reader) in
    let r2 = g.R.Read.remaining (watched_inner c.next_request.new.reader) in
    let w0 = g.W.Write.contents (watched_inner c.args.writer.now) in
    let w1 = g.W.Write.contents (watched_inner c.answer_ready.new.writer) in
    let w2 = g.W.Write.contents (watched_inner c.show_reply.new.writer) in
    let rq = g.R.Read.remaining (watched_inner c.requests.reader) in
    let wq = g.W.Write.contents (watched_inner c.requests.writer) in
    let p = progress-turn c.args.index.now c.requests.index c.answer_ready.new.index r0 rq r1 w0 wq w1 c.requests.count c.answer_ready.new.count c.requests.invariant.progress c.in-Ok.field-0 c.in-Ok.ensures.answered in
    let read = c.in-Ok-Some.ensures.bytes in
    let limited = limit-of c.in-Ok-Some.field-0 c.limits-limit.result.bytes c.answer_ready.new.index.limits.bytes (ap (λ (limits : Limits). limits.bytes) c.limits-limit.ensures) c.in-Ok-Some.ensures.limit in
    let got = answered c.in-Ok-Some.field-0 c.in-Ok-Some.asked r2 c.answer_ready.new.count c.next_request.new.count read.0 c.deref.result.now c.as_deref.result c.answer_ready.new.index c.answer-reply.new.index (reply_text c.answer-reply.result)
    c.in-Ok-Some.field-0-is read.2 c.deref.ensures.value c.as_deref.ensures.value limited c.answer-reply.ensures in
    record {
      reader = unfailed (watched_failed c.next_request.new.reader) (watched_failed c.answer_ready.new.reader) c.in-Ok-Some.ensures.failed (unfailed (watched_failed c.answer_ready.new.reader) (watched_failed c.requests.reader) c.in-Ok.ensures.reader c.requests.invariant.reader);
      writer = unfailed (watched_failed c.show_reply.new.writer) (watched_failed c.answer_ready.new.writer) c.in-Ok-show_reply.ensures.failed (unfailed (watched_failed c.answer_ready.new.writer) (watched_failed c.requests.writer) c.in-Ok.ensures.writer c.requests.invariant.writer);
      flushed = λ before. c.in-Ok-show_reply.ensures.flushed;
      none = c.in-Ok.ensures.none;
      progress = progress-more c.args.index.now c.answer_ready.new.index r0 r1 r2 w0 w1 w2 c.answer_ready.new.count p c.in-Ok-Some.asked read.0 read.1 c.next_request.new.count got.spells
          c.answer-reply.new.index (reply_text c.answer-reply.result) got.answers c.if-not-asked.false (sent-all c.in-Ok-show_reply.field-0 w1 w2 (reply_text c.answer-reply.result) c.in-Ok-show_reply.ensures.bytes);
    }

pub returns-in-Err-clause-ran : goal.returns-in-Err-clause-ran
returns-in-Err-clause-ran g c =
    let r0 = g.R.Read.remaining (watched_inner c.args.reader.now) in
    let r1 = g.R.Read.remaining (watched_inner c.requests.reader) in
    let r2 = g.R.Read.remaining (watched_inner c.answer_ready.new.reader) in
    let w0 = g.W.Write.contents (watched_inner c.args.writer.now) in
    let w1 = g.W.Write.contents (watched_inner c.requests.writer) in
    let w2 = g.W.Write.contents (watched_inner c.answer_ready.new.writer) in
    ran-turn c.args.index.now c.requests.index c.answer_ready.new.index r0 r1 r2 w0 w1 w2 c.requests.count c.answer_ready.new.count c.requests.invariant.progress c.in-Err.fault c.in-Err.ensures.answered
