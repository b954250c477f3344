use Rattle.std.proofs.Common.{length, map, true}
use Rattle.collate_words.specs.ContextKeys.{pair_of}
use Rattle.collate_words.specs.Entries.{said_beside}
use Rattle.collate_words.proofs.growth.FrontLemmas.{Grows-trans}
use Rattle.collate_words.proofs.written.SortedKeyLemmas.{keys_once}
use Rattle.collate_words.proofs.written.WritingLemmas.{none_counted, prefixes_none, prefixes_written, some_counted}
use Rattle.collate_words.proofs.pools.Pools.write_prefixes.Goals as goal

pub returns-then-is_empty-clause-says : goal.returns-then-is_empty-clause-says
returns-then-is_empty-clause-says c saying says before digit =
    prefixes_none c.args.self.now c.args.behind c.args.prefixes.now
    (none_counted (length c.args.prefixes.now) c.is_empty.result c.is_empty.ensures c.if-is_empty.true) saying says
    before

pub returns-clause-says : goal.returns-clause-says
returns-clause-says c =
    let grown = c.write_context.ensures.grows in
    prefixes_written
    (record {
      grammar = c.values_stay_in_longer_units.ensures.grammar;
      values =
          c.values_stay_in_longer_units.ensures.values;
    })
    c.args.self.now c.write_keys.new.self c.write_context.new.self c.in_ok-index.index c.prefix_word.result
    c.args.behind c.args.prefixes.now
    (map pair_of c.in_ok-keys.keys.items)
    (Grows-trans c.args.self.now c.write_keys.new.self c.write_context.new.self c.write_keys.ensures.grows grown) grown
    c.prefix_word.ensures.fits c.prefix_word.ensures.index c.prefix_word.ensures.low c.requires.beside
    (some_counted (length c.args.prefixes.now) c.is_empty.result c.is_empty.ensures c.if-is_empty.false)
    c.in_ok-index.ensures.says c.in_ok-keys.ensures.says

pub write_context-requires-clause-once : goal.write_context-requires-clause-once
write_context-requires-clause-once c =
    keys_once c.write_keys.new.self 3 true
    (map said_beside c.args.prefixes.now) c.in_ok-keys.keys.items c.requires.beside c.in_ok-keys.ensures.says
