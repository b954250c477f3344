use Rattle.icu_char16trie.proofs.Cursors.ValueLemmas.{value_spelled}
use Rattle.icu_char16trie.proofs.Reading.OutcomeLemmas.{start-spells}
use Rattle.icu_char16trie.proofs.laws.values_are_those_of_the_map.Goals as goal

pub returns-clause-followed : goal.returns-clause-followed
returns-clause-followed c = value_spelled

pub returns-clause-spelled : goal.returns-clause-spelled
returns-clause-spelled c units key number trie =
    ((λ e. (start-spells units trie key number).0 ((value_spelled units key number).0 e)), (λ h. (value_spelled units key number).1 ((start-spells units trie key number).1 h)))
