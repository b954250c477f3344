use Rattle.std.proofs.Common.{◌≡◌, length, map, take}
use Rattle.std.specs.Prelude.{All}
use Rattle.collate_words.specs.ContextKeys.{AreKeysOf, FitsContext, pair_of}
use Rattle.collate_words.specs.Entries.{said_beside}
use Rattle.collate_words.specs.Growth.{Grows, GrowsFor}
use Rattle.collate_words.specs.Sayings.{element_sum}
use Rattle.collate_words.proofs.pools.Pools.write_keys.Given as goal

abbrev pub invariant-loop-beside : goal.invariant-loop-beside
invariant-loop-beside l = record {
  grows : Grows l.initial.self l.self;
  contexts : l.self.contexts ≡ l.initial.self.contexts;
  size : GrowsFor (element_sum (map said_beside (take l.beside-index l.besides))) 0 l.initial.self l.self;
  count : length l.keys.items ≡ l.beside-index;
  fit : All FitsContext l.keys.items;
  says : AreKeysOf l.self l.backward (map said_beside (take l.beside-index l.besides)) (map pair_of l.keys.items);
}
