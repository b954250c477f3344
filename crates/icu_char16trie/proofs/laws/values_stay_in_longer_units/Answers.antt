use Rattle.icu_char16trie.proofs.Grammar.LongerGrammarLemmas.{trie_longer, values_kept}
use Rattle.icu_char16trie.proofs.laws.values_stay_in_longer_units.Goals as goal

pub returns-clause-grammar : goal.returns-clause-grammar
returns-clause-grammar c = trie_longer

pub returns-clause-values : goal.returns-clause-values
returns-clause-values c units more key trie some = values_kept units more trie some key
