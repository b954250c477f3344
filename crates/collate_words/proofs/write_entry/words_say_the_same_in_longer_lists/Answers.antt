use Rattle.collate_words.proofs.written.SayingGrowthLemmas.{says_longer}
use Rattle.collate_words.proofs.write_entry.words_say_the_same_in_longer_lists.Goals as goal

pub returns : goal.returns
returns c pools larger word saying grows says =
    says_longer (record { grammar = c.values_stay_in_longer_units.ensures.grammar; values = c.values_stay_in_longer_units.ensures.values })
    pools larger grows word saying says
