use Rattle.std.proofs.Common.{ℕ, Bool, map, not, sym, ◌∙◌, ap}
use Rattle.collate_lines.specs.Record.{said}
use Rattle.collate_rules.specs.RecordRules.{is_mark}
use Rattle.collate_record_rules.proofs.records.DropLemmas.{any_hit, any_miss}
use Rattle.collate_record_rules.proofs.recorded_texts.has_starter.Goals as goal

pub returns-then-not-is_mark : goal.returns-then-not-is_mark
returns-then-not-is_mark c =
    let p : ℕ → Bool = λ d. not (is_mark (map said c.args.all.now.lines.now) d) in
    any_hit p c.args.list.now c.loop-c.c-index c.c-item.result c.loop-c-test.true c.c-item.is (ap not (sym c.is_mark.ensures ∙ c.if-not-is_mark.true)) c.loop-c.invariant

pub loop-c-preserved : goal.loop-c-preserved
loop-c-preserved c =
    let p : ℕ → Bool = λ d. not (is_mark (map said c.args.all.now.lines.now) d) in
    any_miss p c.args.list.now c.loop-c.c-index c.c-item.result c.loop-c-test.true c.c-item.is (ap not (sym c.is_mark.ensures ∙ c.if-not-is_mark.false)) c.loop-c.invariant
