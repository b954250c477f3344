use Rattle.collate_rules.proofs.mappings.PartMapLemmas.{exclusion_push, exclusion_skip}
use Rattle.collate_rules.proofs.canonical_parts.note_exclusion.Goals as goal

pub returns-in_ok-put_first-in-Some : goal.returns-in_ok-put_first-in-Some
returns-in_ok-put_first-in-Some c = λ lines has. exclusion_push c.args.exclusions.now c.put_first.new.noted lines c.args.part c.in-Some.character c.in-Some.is_excluded c.in-Some.ensures has c.in_ok-put_first-in-Some.ensures

pub returns-in-None : goal.returns-in-None
returns-in-None c = λ lines has. exclusion_skip c.args.exclusions.now lines c.args.part c.in-None.ensures has
