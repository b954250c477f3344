use Rattle.icu_normalizer_core.specs.Named.{narrow_block, wide_block}
use Rattle.collate_rules.proofs.offenders.NamedCharacterLemmas.{holds_more, holds_taken_more}
use Rattle.collate_rules.proofs.names.Names.add.Goals as goal

pub returns : goal.returns
returns c = λ list has. record {
  characters = holds_more c.args.self.now.characters c.insert.new.self c.args.character c.in_ok-insert.field-0 list has.characters c.in_ok-insert.ensures.added c.in_ok-insert.ensures.updates c.in_ok-insert.ensures.len;
  wide = holds_taken_more wide_block c.args.self.now.wide c.insert-2.new.self c.args.character c.in_ok-insert-2.field-0 list has.wide c.in_ok-insert-2.ensures.added c.in_ok-insert-2.ensures.updates c.in_ok-insert-2.ensures.len;
  narrow = holds_taken_more narrow_block c.args.self.now.narrow c.insert-3.new.self c.args.character c.in_ok-insert-3.field-0 list has.narrow
      (rw c.narrow_block.ensures at c.in_ok-insert-3.ensures.added) (rw c.narrow_block.ensures at c.in_ok-insert-3.ensures.updates) c.in_ok-insert-3.ensures.len;
}
