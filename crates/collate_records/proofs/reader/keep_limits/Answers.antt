use Rattle.std.proofs.Common.{map, arith}
use Rattle.collate_lines.specs.Record.{said}
use Rattle.collate_records.proofs.reading.ReadingFaultLemmas.{short_on_ok}
use Rattle.collate_records.proofs.reader.keep_limits.Goals as goal

pub returns-clause-asks : goal.returns-clause-asks
returns-clause-asks c = λ file of keeps.
    c.refuse.ensures.asks c.args.limits file (map said c.args.records.now) of (omega arith) c.in_ok-over.ensures keeps

pub returns-clause-short : goal.returns-clause-short
returns-clause-short c = short_on_ok c.args.limits (map said c.args.records.now) _ c.refuse.result c.in_ok-over.ensures c.refuse.ensures.none
