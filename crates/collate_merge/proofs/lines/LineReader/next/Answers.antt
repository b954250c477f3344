use Rattle.std.proofs.Common.{arith}
use Rattle.collate_merge.specs.Lines.{reader_inside, separator_of}
use Rattle.collate_merge.proofs.LineLemmas.{read_line, read_none}
use Rattle.collate_merge.proofs.lines.LineReader.next.Goals as goal

pub returns-in-Ok-eq0-clause-read : goal.returns-in-Ok-eq0-clause-read
returns-in-Ok-eq0-clause-read g c =
    read_none (g.R.Read.remaining (reader_inside c.args.self.now)) (g.R.Read.remaining c.read_until.new.self) (separator_of c.args.self.now) c.in-Ok-eq0.field-0 c.read_until.new.buf.items
    c.read_until.result c.in-Ok-eq0.is (omega arith) c.read_until.ensures.end

pub returns-in-Ok-clause-read : goal.returns-in-Ok-clause-read
returns-in-Ok-clause-read g c =
    read_line (g.R.Read.remaining (reader_inside c.args.self.now)) (g.R.Read.remaining c.read_until.new.self) (separator_of c.args.self.now) c.in-Ok.field-0
    c.clear.new.self.items c.read_until.new.buf.items c.trim.new.bytes.items c.clear.ensures.items (omega (arith, c.in-Ok.ensures.ok, c.read_until.new.buf.ok.0, c.clear.new.self.ok.0)) (omega arith) c.trim.ensures c.in-Ok.ensures.bytes c.in-Ok.ensures.rest
