use Rattle.std.proofs.Common.{List, map, ◌∙◌, ap, arith}
use Rattle.collate_lines.specs.declared.record.Record.{Record as Line}
use Rattle.collate_lines.specs.Record.{said}
use Rattle.collate_rules.specs.RecordRules.{lacks_shorter}
use Rattle.collate_record_rules.proofs.records.LineTestLemmas.{is_first, none_at_all, none_more}
use Rattle.collate_record_rules.proofs.recorded_texts.first_lacking_shorter.Goals as goal

pub returns-then-lacks : goal.returns-then-lacks
returns-then-lacks c =
    let test = lacks_shorter (map said c.args.records.now) in
    is_first test c.args.records.now c.loop-i.i c.index-records-i.result c.in_ok-lacks.lacks c.loop-i-test.true c.index-records-i.is
    (c.in_ok-lacks.ensures ∙ ap (λ (ls : List Line). lacks_shorter (map said ls) (said c.index-records-i.result)) c.in_ok-all.ensures)
    c.if-lacks.true c.loop-i.invariant

pub loop-i-preserved : goal.loop-i-preserved
loop-i-preserved c =
    let test = lacks_shorter (map said c.args.records.now) in
    none_more test c.args.records.now c.loop-i.i c.index-records-i.result c.in_ok-lacks.lacks c.loop-i-test.true c.index-records-i.is
    (c.in_ok-lacks.ensures ∙ ap (λ (ls : List Line). lacks_shorter (map said ls) (said c.index-records-i.result)) c.in_ok-all.ensures)
    c.if-lacks.false c.loop-i.invariant

pub returns : goal.returns
returns c = none_at_all (lacks_shorter (map said c.args.records.now)) c.args.records.now c.loop-i.i (omega (arith, c.loop-i-test.false)) c.loop-i.invariant
