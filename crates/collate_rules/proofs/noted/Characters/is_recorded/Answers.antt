use Rattle.std.proofs.Common.{map, ◌∙◌}
use Rattle.collate_lines.specs.Record.{said}
use Rattle.collate_rules.proofs.records.RecordedLemmas.{recorded_alone}
use Rattle.collate_rules.proofs.noted.Characters.is_recorded.Goals as goal

pub returns : goal.returns
returns c = c.contains.ensures ∙ c.args.self.now.has_alone c.args.c ∙ recorded_alone (map said c.args.self.now.lines.now) c.args.c
