use Rattle.std.proofs.Common.{◌≡◌, ◌+◌, Err, length, take, subst, length-take-le, arith}
use Rattle.std.specs.Prelude.{IfErr}
use Rattle.std.specs.Io.BufRead.{FillKeeps}
use Rattle.collate_run.specs.declared.run.RunFault.TheVariants.{Write}
use Rattle.collate_run.specs.Buffered.{Gathers}
use Rattle.collate_run.specs.Watched.{watched_inner}
use Rattle.collate_run.proofs.lines.CommandLineReadyLemmas.{consumes-front, sends-failed, sends-gathered, takes-fault, takes-sent}
use Rattle.collate_run.proofs.buffered.answer_ready.Goals as goal

pub returns-in-Err-clause-answered : goal.returns-in-Err-clause-answered
returns-in-Err-clause-answered g c =
    takes-fault c.args.index.now (g.R.Read.remaining (watched_inner c.args.reader.now)) (g.R.Read.remaining c.fill_buf.follows.lender-at-none)
    (g.W.Write.contents (watched_inner c.args.writer.now)) c.args.count.now c.fill_buf.follows.holds-at-none.0 c.requires.within

pub returns-clause-answered : goal.returns-clause-answered
returns-clause-answered g c =
    let r0 = g.R.Read.remaining (watched_inner c.args.reader.now) in
    let rested = c.fill_buf.follows.lender-at-none in
    let rm = g.R.Read.remaining rested in
    let r2 = g.R.Read.remaining c.consume.new.self in
    let w0 = g.W.Write.contents (watched_inner c.args.writer.now) in
    let w1 = g.W.Write.contents (watched_inner c.answer_lines-taken.new.writer) in
    let w2 = g.W.Write.contents (watched_inner c.show.new.writer) in
    let shown = c.in-Ok.ready.now in
    let most = c.at_most-most.result in
    let taken = c.answer_lines-taken.result.0 in
    let answered = c.answer_lines-taken.ensures.answered in
    let filled = subst (FillKeeps r0 rm (g.R.BufRead.consumable_len rested)) c.in-Ok.is c.fill_buf.follows.holds-at-none in
    let long = length-take-le most shown c.at_most-most.ensures.number in
    let size : length (take taken (take most shown)) ≡ taken = length-take-le taken (take most shown) c.answer_lines-taken.ensures.bound in
    let gathers = subst (λ done. Gathers done w0 w1 c.args.waiting.now.items c.answer_lines-taken.new.waiting.items answered.0) c.in-Ok-answered.is answered.2 in
    takes-sent c.args.index.now c.answer_lines-taken.new.index r0 r2 w0 w2 c.args.count.now (c.args.count.now + taken) (take taken (take most shown)) answered.0 answered.1
    (consumes-front r0 rm r2 (g.R.BufRead.consumable_len rested) shown most taken c.at_most-most.ensures.number c.answer_lines-taken.ensures.bound c.in-Ok.ensures.front c.in-Ok.ensures.end filled.0 filled.1 c.consume.ensures.bytes)
    (omega (arith, size)) (omega (arith, size, long, c.answer_lines-taken.ensures.bound, c.at_most-most.ensures.limit, c.requires.within))
    c.show.result c.show.ensures.fault
    (sends-gathered c.show.result w0 w1 w2 tt c.args.waiting.now.items c.answer_lines-taken.new.waiting.items answered.0 c.requires.none gathers c.show.ensures.bytes)

pub returns-in-Err-answered-clause-answered : goal.returns-in-Err-answered-clause-answered
returns-in-Err-answered-clause-answered g c =
    let r0 = g.R.Read.remaining (watched_inner c.args.reader.now) in
    let rested = c.fill_buf.follows.lender-at-none in
    let rm = g.R.Read.remaining rested in
    let r2 = g.R.Read.remaining c.consume.new.self in
    let w0 = g.W.Write.contents (watched_inner c.args.writer.now) in
    let w1 = g.W.Write.contents (watched_inner c.answer_lines-taken.new.writer) in
    let shown = c.in-Ok.ready.now in
    let most = c.at_most-most.result in
    let taken = c.answer_lines-taken.result.0 in
    let answered = c.answer_lines-taken.ensures.answered in
    let filled = subst (FillKeeps r0 rm (g.R.BufRead.consumable_len rested)) c.in-Ok.is c.fill_buf.follows.holds-at-none in
    let long = length-take-le most shown c.at_most-most.ensures.number in
    let size : length (take taken (take most shown)) ≡ taken = length-take-le taken (take most shown) c.answer_lines-taken.ensures.bound in
    let gathers = subst (λ done. Gathers done w0 w1 c.args.waiting.now.items c.answer_lines-taken.new.waiting.items answered.0) c.in-Err-answered.is answered.2 in
    takes-sent c.args.index.now c.answer_lines-taken.new.index r0 r2 w0 w1 c.args.count.now (c.args.count.now + taken) (take taken (take most shown)) answered.0 answered.1
    (consumes-front r0 rm r2 (g.R.BufRead.consumable_len rested) shown most taken c.at_most-most.ensures.number c.answer_lines-taken.ensures.bound c.in-Ok.ensures.front c.in-Ok.ensures.end filled.0 filled.1 c.consume.ensures.bytes)
    (omega (arith, size)) (omega (arith, size, long, c.answer_lines-taken.ensures.bound, c.at_most-most.ensures.limit, c.requires.within))
    (Err c.in-Err-answered.fault) (subst (λ done. IfErr done (λ fault. fault ≡ Write)) c.in-Err-answered.is c.answer_lines-taken.ensures.fault)
    (sends-failed c.in-Err-answered.fault w0 w1 c.args.waiting.now.items c.answer_lines-taken.new.waiting.items answered.0 c.requires.none gathers)
