use Rattle.std.proofs.Common.{◌≡◌, ◌++◌, ◌∙◌, ℕ, refl, ap, subst, arith}
use Rattle.collate_run.specs.Reading.{SpellsRequest, spelled}
use Rattle.collate_run.specs.Replies.{AreFirst, behind}
use Rattle.collate_run.specs.Watched.{watched_inner, watched_failed}
use Rattle.collate_run.proofs.bytes.KnownBytesLemmas.{Consumes-then}
use Rattle.collate_run.proofs.lines.CommandLineReadLemmas.{no-line, some-line, unmarked}
use Rattle.collate_run.proofs.lines.RequestLemmas.{at-end, is-ended, kept-more, not-ended, request-cut, request-end, request-fault, request-first, request-more, request-none}
use Rattle.collate_run.proofs.run.next_request.Goals as goal

pub returns-in-Err-clause-bytes : goal.returns-in-Err-clause-bytes
returns-in-Err-clause-bytes g c =
    let read = c.in-Err.ensures.bytes in
    (read.0, read.1, request-none c.args.count.now read.0 c.requires.within c.in-Err.fault (g.R.Read.remaining (watched_inner c.next_line.new.reader)) read.2)

pub loop-init : goal.loop-init
loop-init g c =
    let r = g.R.Read.remaining (watched_inner c.next_line.new.reader) in
    let read = c.in-Ok-Some.ensures.bytes in
    let line = some-line c.in-Ok-Some.field-0 c.in-Ok-Some.line r c.args.count.now c.next_line.new.count read.0 c.in-Ok-Some.field-0-is read.2 in
    record {
      same = unmarked (watched_failed c.next_line.new.reader) (watched_failed c.args.reader.now) c.in-Ok-Some.ensures.failed;
      limit = refl;
      asked = c.records_behind-wanted.ensures ∙ ap behind c.deref.ensures.value;
      so_far = (read.0, read.1, request-first c.in-Ok-Some.line r read.0 line.0 _ c.args.count.now c.next_line.new.count refl refl c.new.ensures.items line.1 line.2 line.3);
    }

pub returns-then-not-request-clause-bytes : goal.returns-then-not-request-clause-bytes
returns-then-not-request-clause-bytes g c =
    let before = c.loop.invariant.so_far in
    let r = g.R.Read.remaining (watched_inner c.loop.reader) in
    (before.0, before.1, request-cut c.loop.request c.loop.counter r r c.args.count.now c.loop.count before.0 before.2 (omega (arith, c.loop-test.true, c.loop.invariant.asked)) (at-end c.loop.request c.loop.counter r c.args.count.now c.loop.count before.0 before.2 (not-ended c.loop.request.is_ended c.if-not-request.true)))

pub returns-in-Ok-None-next_line-clause-bytes : goal.returns-in-Ok-None-next_line-clause-bytes
returns-in-Ok-None-next_line-clause-bytes g c =
    let before = c.loop.invariant.so_far in
    let r0 = g.R.Read.remaining (watched_inner c.args.reader.now) in
    let r1 = g.R.Read.remaining (watched_inner c.loop.reader) in
    let r2 = g.R.Read.remaining (watched_inner c.next_line-in-loop.new.reader) in
    let read = c.in-Ok-None-next_line.ensures.bytes in
    let last = no-line c.in-Ok-None-next_line.field-0 r2 c.loop.count c.next_line-in-loop.new.count read.0 c.in-Ok-None-next_line.field-0-is read.2 in (
      before.0 ++ read.0,
      Consumes-then r0 r1 r2 before.0 read.0 before.1 read.1,
      request-end c.loop.request c.loop.counter r1 r2 c.args.count.now c.loop.count before.0 before.2
          (omega (arith, c.loop-test.true, c.loop.invariant.asked)) read.0 last.0 last.1,
    )

pub returns-in-Err-next_line-clause-bytes : goal.returns-in-Err-next_line-clause-bytes
returns-in-Err-next_line-clause-bytes g c =
    let before = c.loop.invariant.so_far in
    let r0 = g.R.Read.remaining (watched_inner c.args.reader.now) in
    let r1 = g.R.Read.remaining (watched_inner c.loop.reader) in
    let r2 = g.R.Read.remaining (watched_inner c.next_line-in-loop.new.reader) in
    let read = c.in-Err-next_line.ensures.bytes in (
      before.0 ++ read.0,
      Consumes-then r0 r1 r2 before.0 read.0 before.1 read.1,
      request-fault c.loop.request c.loop.counter r1 r2 c.args.count.now c.loop.count before.0 before.2 (is-ended c.loop.request.is_ended c.if-not-request.false)
          (omega (arith, c.loop-test.true, c.loop.invariant.asked)) c.in-Err-next_line.fault read.0 read.2,
    )

pub loop-preserved : goal.loop-preserved
loop-preserved g c =
    let before = c.loop.invariant.so_far in
    let r0 = g.R.Read.remaining (watched_inner c.args.reader.now) in
    let r1 = g.R.Read.remaining (watched_inner c.loop.reader) in
    let r2 = g.R.Read.remaining (watched_inner c.next_line-in-loop.new.reader) in
    let read = c.in-Ok-Some-next_line.ensures.bytes in
    let line = some-line c.in-Ok-Some-next_line.field-0 c.in-Ok-Some-next_line.record r2 c.loop.count c.next_line-in-loop.new.count read.0 c.in-Ok-Some-next_line.field-0-is read.2 in
    record {
      same = unmarked (watched_failed c.next_line-in-loop.new.reader) (watched_failed c.loop.reader) c.in-Ok-Some-next_line.ensures.failed ∙ c.loop.invariant.same;
      limit = c.loop.invariant.limit;
      asked = c.loop.invariant.asked;
      so_far = (
        before.0 ++ read.0,
        Consumes-then r0 r1 r2 before.0 read.0 before.1 read.1,
        request-more c.loop.request c.loop.counter r1 r2 c.args.count.now c.loop.count before.0 before.2 (is-ended c.loop.request.is_ended c.if-not-request.false)
            c.in-Ok-Some-next_line.record read.0 line.0 _ c.next_line-in-loop.new.count refl refl
            (kept-more (λ kept file. AreFirst c.loop.request.limit kept.items file) c.with_line.result (spelled before.2.records) c.in-Ok-Some-next_line.record.bytes.items c.deref-in-loop.result.now c.deref-in-loop.ensures.value (c.with_line.ensures (spelled before.2.records) before.2.kept))
            line.1 line.2 line.3,
      );
    }

pub returns-clause-bytes : goal.returns-clause-bytes
returns-clause-bytes g c =
    let so_far = c.loop.invariant.so_far in
    let r = g.R.Read.remaining (watched_inner c.loop.reader) in
    let all : c.loop.counter ≡ behind c.loop.request.line.items = let end = c.loop-test.false in let within = c.loop.auto.counter-end in omega (arith, end, within, c.loop.invariant.asked) in
    (so_far.0, so_far.1, subst (λ (n : ℕ). SpellsRequest c.loop.request n r c.args.count.now c.loop.count so_far.0) all so_far.2)
