use Rattle.collate_rules.proofs.mappings.PartMapLemmas.{pair_push, pair_skip}
use Rattle.collate_rules.proofs.canonical_parts.note_pair.Goals as goal

pub returns-in_ok-put_first_pair-in-Some : goal.returns-in_ok-put_first_pair-in-Some
returns-in_ok-put_first_pair-in-Some c = λ lines has. pair_push c.args.pairs.now c.put_first_pair.new.pairs lines c.args.part c.in-Some.pair c.in-Some.character c.in-Some.ensures has c.in_ok-put_first_pair-in-Some.ensures

pub returns-in-None : goal.returns-in-None
returns-in-None c = λ lines has. pair_skip c.args.pairs.now lines c.args.part c.in-None.ensures has
