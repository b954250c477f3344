use Rattle.std.proofs.Common.{map, sym, ◌∙◌}
use Rattle.collate_lines.specs.Record.{said}
use Rattle.collate_rules.specs.RecordRules.{has_mapping}
use Rattle.collate_record_rules.proofs.records.DropLemmas.{any_hit, any_miss}
use Rattle.collate_record_rules.proofs.decomposed.has_mapped.Goals as goal

pub returns-then-has_mapping : goal.returns-then-has_mapping
returns-then-has_mapping c =
    any_hit (has_mapping (map said c.args.given.now.lines.now)) c.args.list.now c.loop-c.c-index c.c-item.result c.loop-c-test.true c.c-item.is
    (sym c.has_mapping.ensures ∙ c.if-has_mapping.true) c.loop-c.invariant

pub loop-c-preserved : goal.loop-c-preserved
loop-c-preserved c =
    any_miss (has_mapping (map said c.args.given.now.lines.now)) c.args.list.now c.loop-c.c-index c.c-item.result c.loop-c-test.true c.c-item.is
    (sym c.has_mapping.ensures ∙ c.if-has_mapping.false) c.loop-c.invariant
