use Rattle.std.proofs.Common.{ℕ, Bool, map, not, sym, ◌∙◌}
use Rattle.collate_lines.specs.Record.{said}
use Rattle.collate_rules.specs.RecordRules.{is_mark}
use Rattle.collate_record_rules.proofs.records.DropLemmas.{behind_hit, behind_miss}
use Rattle.collate_record_rules.proofs.recorded_texts.has_starter_behind.Goals as goal

pub returns-then-is_before_starter : goal.returns-then-is_before_starter
returns-then-is_before_starter c =
    let m : ℕ → Bool = is_mark (map said c.args.given.now.lines.now) in
    let s : ℕ → Bool = λ d. not (is_mark (map said c.args.all.now.lines.now) d) in
    behind_hit m s c.args.text.now c.loop-i.i c.index-text-i.result c.loop-i-test.true c.index-text-i.is (sym c.is_before_starter.ensures ∙ c.if-is_before_starter.true) c.loop-i.invariant

pub loop-i-preserved : goal.loop-i-preserved
loop-i-preserved c =
    let m : ℕ → Bool = is_mark (map said c.args.given.now.lines.now) in
    let s : ℕ → Bool = λ d. not (is_mark (map said c.args.all.now.lines.now) d) in
    behind_miss m s c.args.text.now c.loop-i.i c.index-text-i.result c.loop-i-test.true c.index-text-i.is (sym c.is_before_starter.ensures ∙ c.if-is_before_starter.false) c.loop-i.invariant
