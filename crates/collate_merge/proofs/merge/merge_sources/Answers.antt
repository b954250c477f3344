use Rattle.std.proofs.Common.{[], ◌∙◌, ap, get_or, length, sym}
use Rattle.collate_sort.specs.Orders.{LineRule}
use Rattle.collate_merge.specs.Lines.{lines_in}
use Rattle.collate_merge.proofs.ProgressLemmas.{progress_end, progress_many, progress_none}
use Rattle.collate_merge.proofs.SourceStepLemmas.{behind_first, first_line, step_cut, step_more}
use Rattle.collate_merge.proofs.StepLemmas.{accepted_by, found_least, found_none}
use Rattle.collate_merge.proofs.merge.merge_sources.Goals as goal

pub merge-init : goal.merge-init
merge-init g c = λ m files same left kept. progress_none g.R.Read.remaining m files c.args.sources.now.items c.args.output.now (g.W.Write.contents c.args.writer.now) left kept

pub returns-in-None : goal.returns-in-None
returns-in-None g c = λ m files same left kept.
    progress_end g.R.Read.remaining m files c.merge.sources.items c.merge.output (g.W.Write.contents c.args.writer.now) (g.W.Write.contents c.merge.writer) (c.merge.invariant m files same left kept) tt c.direction.result
    (found_none c.direction.result c.as_slice.result.now c.merge.sources.items c.least.result c.as_slice.ensures.value c.in-None.is c.least.ensures)

pub returns-in-Err : goal.returns-in-Err
returns-in-Err g c = λ m files same left kept.
    let w = g.W.Write.contents in
    let p = c.merge.invariant m files same left kept in
    let accepted = accepted_by m c.args.order.now same.0 c.keep_rules.ensures in
    let direction_is = c.direction.ensures ∙ sym (ap (λ (r : LineRule). r.direction) same.0) in
    let least = found_least c.direction.result c.as_slice.result.now c.merge.sources.items c.least.result c.in-Some.index c.as_slice.ensures.value c.in-Some.is c.least.ensures in
    step_cut g.R.Read.remaining m files c.merge.sources.items c.merge.output (w c.args.writer.now) (w c.merge.writer) p accepted c.direction.result direction_is c.in-Some.index least
    c.index_mut.result.now c.index_mut.ensures.value c.step.new.source c.step.new.output (w c.step.new.writer) c.in-Err.error
    (c.in-Err.ensures m (length (lines_in m.separator (get_or files c.in-Some.index [])))
    (behind_first g.R.Read.remaining m files c.merge.sources.items c.merge.output (w c.args.writer.now) (w c.merge.writer) p accepted c.direction.result direction_is c.in-Some.index least c.index_mut.result.now c.index_mut.ensures.value)
    p.last same
    (first_line g.R.Read.remaining m files c.merge.sources.items c.merge.output (w c.args.writer.now) (w c.merge.writer) p accepted c.direction.result direction_is c.in-Some.index least c.index_mut.result.now c.index_mut.ensures.value)
    p.kept)

pub merge-preserved : goal.merge-preserved
merge-preserved g c = λ m files same left kept.
    let w = g.W.Write.contents in
    let p = c.merge.invariant m files same left kept in
    let accepted = accepted_by m c.args.order.now same.0 c.keep_rules.ensures in
    let direction_is = c.direction.ensures ∙ sym (ap (λ (r : LineRule). r.direction) same.0) in
    let least = found_least c.direction.result c.as_slice.result.now c.merge.sources.items c.least.result c.in-Some.index c.as_slice.ensures.value c.in-Some.is c.least.ensures in
    step_more g.R.Read.remaining m files c.merge.sources.items c.merge.output (w c.args.writer.now) (w c.merge.writer) p accepted c.direction.result direction_is c.in-Some.index least
    c.index_mut.result.now c.index_mut.ensures.value c.step.new.source c.step.new.output (w c.step.new.writer) c.in-Ok.field-0
    (c.in-Ok.ensures m (length (lines_in m.separator (get_or files c.in-Some.index [])))
    (behind_first g.R.Read.remaining m files c.merge.sources.items c.merge.output (w c.args.writer.now) (w c.merge.writer) p accepted c.direction.result direction_is c.in-Some.index least c.index_mut.result.now c.index_mut.ensures.value)
    p.last same
    (first_line g.R.Read.remaining m files c.merge.sources.items c.merge.output (w c.args.writer.now) (w c.merge.writer) p accepted c.direction.result direction_is c.in-Some.index least c.index_mut.result.now c.index_mut.ensures.value)
    p.kept)

pub returns : goal.returns
returns g c = λ m files same left kept.
    progress_many g.R.Read.remaining m files c.merge.sources.items c.merge.output (g.W.Write.contents c.args.writer.now) (g.W.Write.contents c.merge.writer) (c.merge.invariant m files same left kept)
