use Rattle.icu_char16trie.proofs.Writing.RoundTripLemmas.{within_limit}
use Rattle.icu_char16trie.proofs.laws.written_keys_are_within_the_limit.Goals as goal

pub returns : goal.returns
returns c pairs units limit entries short = within_limit pairs units limit entries short
