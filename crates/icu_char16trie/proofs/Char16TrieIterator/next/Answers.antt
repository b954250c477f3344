use Rattle.icu_char16trie.specs.Cursors.{units_of}
use Rattle.icu_char16trie.proofs.Cursors.TextAnswerLemmas.{follows_of, units_some}
use Rattle.icu_char16trie.proofs.Char16TrieIterator.next.Goals as goal

pub returns : goal.returns
returns c = follows_of c.args.self.now (units_of c.args.character) c.follow_code.result c.follow_code.new.self (units_some c.args.character) c.follow_code.ensures.units c.follow_code.ensures.found c.follow_code.ensures.stands
