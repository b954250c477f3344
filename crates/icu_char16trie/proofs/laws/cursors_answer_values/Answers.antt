use Rattle.icu_char16trie.proofs.Cursors.ValueLemmas.{value_answered}
use Rattle.icu_char16trie.proofs.laws.cursors_answer_values.Goals as goal

pub returns : goal.returns
returns c cursor after key answer = value_answered cursor key answer after
