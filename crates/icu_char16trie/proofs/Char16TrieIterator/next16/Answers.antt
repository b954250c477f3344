use Rattle.std.proofs.Common.{◌∷◌, [], arith}
use Rattle.icu_char16trie.proofs.Cursors.TextAnswerLemmas.{follows_of}
use Rattle.icu_char16trie.proofs.Char16TrieIterator.next16.Goals as goal

pub returns : goal.returns
returns c = follows_of c.args.self.now (c.args.unit ∷ []) c.take_unit.result c.take_unit.new.self (omega arith) c.take_unit.ensures.units c.take_unit.ensures.found c.take_unit.ensures.stands
