use Rattle.std.proofs.Common.{ℕ, List, map, sym, ◌∙◌, ap}
use Rattle.collate_lines.specs.Record.{said}
use Rattle.collate_rules.specs.RecordRules.{may_follow_prefix}
use Rattle.collate_record_rules.proofs.records.OrderedLemmas.{only_one}
use Rattle.collate_record_rules.proofs.prefixes.may_follow_prefix.Goals as goal

pub returns-in-len1 : goal.returns-in-len1
returns-in-len1 c =
    c.may_have_prefix.ensures
    ∙ ap (λ (text : List ℕ). may_follow_prefix (map said c.args.all.now.lines.now) (map said c.args.given.now.lines.now) text)
    (sym (only_one c.args.text.now c.c-item.result c.in-len1.len_at_least c.in-len1.len_below c.c-item.is))
