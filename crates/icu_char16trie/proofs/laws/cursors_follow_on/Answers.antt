use Rattle.icu_char16trie.proofs.Cursors.ValueLemmas.{follows_on}
use Rattle.icu_char16trie.proofs.laws.cursors_follow_on.Goals as goal

pub returns : goal.returns
returns c = follows_on
