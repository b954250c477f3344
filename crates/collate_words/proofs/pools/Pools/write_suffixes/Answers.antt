use Rattle.std.proofs.Common.{false, length, map}
use Rattle.collate_words.specs.ContextKeys.{pair_of}
use Rattle.collate_words.specs.Entries.{said_beside}
use Rattle.collate_words.proofs.growth.FrontLemmas.{Grows-trans}
use Rattle.collate_words.proofs.written.SortedKeyLemmas.{keys_once}
use Rattle.collate_words.proofs.written.WritingLemmas.{none_counted, some_counted, suffixes_none, suffixes_written}
use Rattle.collate_words.proofs.pools.Pools.write_suffixes.Goals as goal

pub returns-then-is_empty-clause-says : goal.returns-then-is_empty-clause-says
returns-then-is_empty-clause-says c =
    suffixes_none c.args.self.now c.args.own c.args.suffixes.now c.args.flags
    (none_counted (length c.args.suffixes.now) c.is_empty.result c.is_empty.ensures c.if-is_empty.true)

pub returns-clause-says : goal.returns-clause-says
returns-clause-says c =
    let grown = c.write_context.ensures.grows in
    suffixes_written c.args.self.now c.write_keys.new.self c.write_context.new.self c.in_ok-index.index
    c.contraction_word.result c.args.own
    c.args.suffixes.now c.args.flags (map pair_of c.in_ok-keys.keys.items)
    (Grows-trans c.args.self.now c.write_keys.new.self c.write_context.new.self c.write_keys.ensures.grows grown) grown
    c.contraction_word.ensures.fits c.contraction_word.ensures.fields c.requires.beside
    (some_counted (length c.args.suffixes.now) c.is_empty.result c.is_empty.ensures c.if-is_empty.false)
    c.in_ok-index.ensures.says c.in_ok-keys.ensures.says

pub write_context-requires-clause-once : goal.write_context-requires-clause-once
write_context-requires-clause-once c =
    keys_once c.write_keys.new.self 7 false
    (map said_beside c.args.suffixes.now) c.in_ok-keys.keys.items c.requires.beside c.in_ok-keys.ensures.says
