use Rattle.icu_char16trie.specs.Cursors.{units_of}
use Rattle.icu_char16trie.proofs.Cursors.TextAnswerLemmas.{follows_of, units_some}
use Rattle.icu_char16trie.proofs.Char16TrieIterator.next32.Goals as goal

pub returns-clause-follows : goal.returns-clause-follows
returns-clause-follows c bound = follows_of c.args.self.now (units_of c.args.code) c.follow_code.result c.follow_code.new.self (units_some c.args.code) c.follow_code.ensures.units c.follow_code.ensures.found c.follow_code.ensures.stands
