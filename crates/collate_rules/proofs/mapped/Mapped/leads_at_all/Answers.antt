use Rattle.std.proofs.Common.{map}
use Rattle.collate_lines.specs.Record.{said}
use Rattle.collate_rules.proofs.records.MappedLemmas.{compatibly_built_in}
use Rattle.collate_rules.proofs.mapped.Mapped.leads_at_all.Goals as goal

pub returns-in-Some : goal.returns-in-Some
returns-in-Some c = compatibly_built_in (map said c.args.self.now.lines.now) c.args.c _ c.in-Some.ensures
