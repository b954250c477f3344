use Rattle.collate_rules.proofs.offenders.NamedCharacterLemmas.{holds_none}
use Rattle.collate_rules.proofs.names.Names.new.Goals as goal

pub returns : goal.returns
returns c = record {
  characters = holds_none c.new.result c.new.ensures.empty;
  wide = holds_none c.new-2.result c.new-2.ensures.empty;
  narrow = holds_none c.new-3.result c.new-3.ensures.empty;
}
