use Rattle.std.proofs.Common.{map, sym, ◌∙◌, ap}
use Rattle.collate_lines.specs.declared.record.Record.{Record as Line}
use Rattle.collate_lines.specs.Record.{layer_of, said}
use Rattle.collate_rules.specs.RecordRules.{lacks_shorter}
use Rattle.collate_record_rules.proofs.records.ShorterLemmas.{lacks_by_parts}
use Rattle.collate_record_rules.proofs.recorded_texts.lacks_shorter.Goals as goal

pub returns-in_ok-lacks-in-Some : goal.returns-in_ok-lacks-in-Some
returns-in_ok-lacks-in-Some c =
    c.in_ok-lacks-in-Some.ensures
    ∙ lacks_by_parts (map said c.args.all.now.lines.now) (layer_of c.in-Weights.layer) c.in-Weights.prefix.items c.in-Weights.text.items c.in-Weights.elements.items
    c.in-Some.shorter.now c.in-Some.last.now (sym c.deref.ensures.value ∙ c.in-Some.ensures.cases.0)
    ∙ ap (λ (line : Line). lacks_shorter (map said c.args.all.now.lines.now) (said line)) (sym c.in-Weights.is)
