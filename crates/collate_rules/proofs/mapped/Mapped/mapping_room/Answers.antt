use Rattle.std.proofs.Common.{map, sym, ap, ◌∙◌}
use Rattle.collate_lines.specs.declared.record.Record.{Record as Line}
use Rattle.collate_lines.specs.Record.{said}
use Rattle.collate_rules.specs.Rules.{mapping_room}
use Rattle.collate_rules.proofs.mapped.Mapped.mapping_room.Goals as goal

pub returns-in-Map : goal.returns-in-Map
returns-in-Map c = c.map_room.ensures ∙ ap (λ (line : Line). mapping_room (map said c.args.self.now.lines.now) (said line)) (sym c.in-Map.is)
