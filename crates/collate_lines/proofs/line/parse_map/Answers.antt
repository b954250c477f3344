use Rattle.std.proofs.Common.{arith}
use Rattle.collate_lines.proofs.reading.FormLemmas.{mapping_few}
use Rattle.collate_lines.proofs.line.parse_map.Goals as goal

pub returns-in_default : goal.returns-in_default
returns-in_default c = mapping_few c.args.fields.now (omega arith)
