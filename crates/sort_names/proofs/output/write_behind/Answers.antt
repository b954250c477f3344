use Rattle.sort_names.specs.Texts.{text_of}
use Rattle.sort_names.proofs.WrittenLemmas.{appends-then}
use Rattle.sort_names.proofs.output.write_behind.Goals as goal

pub returns : goal.returns
returns g c =
    let w = g.W.Write.contents in
    appends-then (w c.args.writer.now) (w c.write_all.new.self) (w c.write_lines.new.writer)
    c.args.front.now (text_of c.args.end c.args.keys c.args.list.now) c.in_ok-write_all.ensures.bytes c.in_ok-write_lines.ensures
