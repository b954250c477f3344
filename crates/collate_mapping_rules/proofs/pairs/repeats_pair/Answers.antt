use Rattle.collate_lines.specs.Record.{said}
use Rattle.collate_rules.proofs.offenders.OffenderPairLemmas.{none_same}
use Rattle.collate_mapping_rules.proofs.mappings.ComposedPairLemmas.{composed_push, composed_skip, repeated_told}
use Rattle.collate_mapping_rules.proofs.pairs.repeats_pair.Goals as goal

pub returns-in_ok-is_new-in-Some : goal.returns-in_ok-is_new-in-Some
returns-in_ok-is_new-in-Some c = record {
  told = λ lines has. repeated_told c.args.pairs.now lines (said c.args.given.now) c.in-Some.pair c.in_ok-is_new-in-Some.is_new c.in-Some.ensures has c.in_ok-is_new-in-Some.ensures.added;
  noted = λ lines has. composed_push c.args.pairs.now c.insert.new.self lines (said c.args.given.now) c.in-Some.pair c.in-Some.ensures has c.in_ok-is_new-in-Some.ensures.updates.0;
}

pub returns-in-None : goal.returns-in-None
returns-in-None c = record {
  told = λ lines has. none_same (said c.args.given.now) lines c.in-None.ensures;
  noted = λ lines has. composed_skip c.args.pairs.now lines (said c.args.given.now) c.in-None.ensures has;
}
