use Rattle.std.proofs.Common.{List, map, ◌∙◌, ap, arith}
use Rattle.collate_lines.specs.declared.record.Record.{Record as Line}
use Rattle.collate_lines.specs.Record.{said}
use Rattle.collate_rules.specs.RecordRules.{is_bad_jamo_record}
use Rattle.collate_record_rules.proofs.records.LineTestLemmas.{is_first, none_at_all, none_more}
use Rattle.collate_record_rules.proofs.named.first_bad_jamo.Goals as goal

pub returns-then-is_bad : goal.returns-then-is_bad
returns-then-is_bad c =
    let test = is_bad_jamo_record (map said c.args.records.now) in
    is_first test c.args.records.now c.loop-i.i c.index-records-i.result c.in_ok-is_bad.is_bad c.loop-i-test.true c.index-records-i.is
    (c.in_ok-is_bad.ensures ∙ ap (λ (ls : List Line). is_bad_jamo_record (map said ls) (said c.index-records-i.result)) c.in_ok-recorded.ensures)
    c.if-is_bad.true c.loop-i.invariant

pub loop-i-preserved : goal.loop-i-preserved
loop-i-preserved c =
    let test = is_bad_jamo_record (map said c.args.records.now) in
    none_more test c.args.records.now c.loop-i.i c.index-records-i.result c.in_ok-is_bad.is_bad c.loop-i-test.true c.index-records-i.is
    (c.in_ok-is_bad.ensures ∙ ap (λ (ls : List Line). is_bad_jamo_record (map said ls) (said c.index-records-i.result)) c.in_ok-recorded.ensures)
    c.if-is_bad.false c.loop-i.invariant

pub returns : goal.returns
returns c = none_at_all (is_bad_jamo_record (map said c.args.records.now)) c.args.records.now c.loop-i.i (omega (arith, c.loop-i-test.false)) c.loop-i.invariant
