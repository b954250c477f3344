use Rattle.collate_rules.proofs.mappings.PartMapLemmas.{mapping_push, mapping_skip}
use Rattle.collate_rules.proofs.canonical_parts.note_mapping.Goals as goal

pub returns-in_ok-put_first-in-Some : goal.returns-in_ok-put_first-in-Some
returns-in_ok-put_first-in-Some c = λ lines has. mapping_push c.args.mappings.now c.put_first.new.noted lines c.args.part c.in-Some.character c.in-Some.step c.in-Some.ensures has c.in_ok-put_first-in-Some.ensures

pub returns-in-None : goal.returns-in-None
returns-in-None c = λ lines has. mapping_skip c.args.mappings.now lines c.args.part c.in-None.ensures has
