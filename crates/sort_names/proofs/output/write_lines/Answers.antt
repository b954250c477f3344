use Rattle.std.proofs.Common.{◌≡◌, [], Some, arith, get_or, subst}
use Rattle.std.specs.Io.KnownBytes.{Appends}
use Rattle.std.specs.Prelude.{slice_get}
use Rattle.std.proofs.lemmas.Option.{slice_get-get_or}
use Rattle.sort_names.specs.Texts.{written}
use Rattle.sort_names.proofs.WrittenLemmas.{text_all, text_more}
use Rattle.sort_names.proofs.output.write_lines.Goals as goal

pub loop-index-preserved : goal.loop-index-preserved
loop-index-preserved g c =
    let w = g.W.Write.contents in
    let lines = c.args.list.now.lines in
    let index = c.loop-index.index in
    let line = get_or lines index (record { line = []; text = [] }) in
    let here : slice_get lines index ≡ Some line =
    slice_get-get_or lines index (record { line = []; text = [] }) (omega (arith, c.len-index-end.ensures, c.loop-index-test.true)) in
    text_more (written c.args.end c.args.keys c.args.list.now.rule) lines index line
    (w c.args.writer.now) (w c.loop-index.writer) (w c.send_much.new.writer)
    c.loop-index.gathered.items c.add_line.new.text.items c.send_much.new.gathered.items
    here c.loop-index.invariant (c.in_ok-add_line.ensures line here) c.in_ok-send_much.ensures

pub returns : goal.returns
returns g c =
    let w = g.W.Write.contents in
    text_all (written c.args.end c.args.keys c.args.list.now.rule) c.args.list.now.lines c.loop-index.index
    (w c.args.writer.now) (w c.loop-index.writer) (w c.write_all.new.self) c.loop-index.gathered.items
    (omega (arith, c.len-index-end.ensures, c.loop-index-test.false)) c.loop-index.invariant
    (subst (Appends (w c.loop-index.writer) (w c.write_all.new.self)) c.deref.ensures.value c.in_ok-write_all.ensures.bytes)
