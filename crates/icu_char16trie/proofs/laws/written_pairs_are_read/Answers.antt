use Rattle.icu_char16trie.proofs.Writing.RoundTripLemmas.{read_back}
use Rattle.icu_char16trie.proofs.laws.written_pairs_are_read.Goals as goal

pub returns : goal.returns
returns c pairs list units limit entries written listing = read_back pairs units limit entries list written listing
