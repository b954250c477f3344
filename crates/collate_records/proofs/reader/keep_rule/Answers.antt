use Rattle.std.proofs.Common.{map, arith}
use Rattle.collate_lines.specs.Record.{said}
use Rattle.collate_records.proofs.reading.ReadingFaultLemmas.{found_within}
use Rattle.collate_records.proofs.reader.keep_rule.Goals as goal

pub returns : goal.returns
returns c = λ limits file of keeps.
    c.refuse.ensures.asks limits file (map said c.args.records.now) of (omega (arith, c.requires.after_limit))
    (found_within limits c.args.rule (map said c.args.records.now) _ c.requires.after_limit c.in_ok-found.ensures) keeps
