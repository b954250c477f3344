use Rattle.icu_collections_sets.proofs.sets.CharacterLemmas.{length_passing}
use Rattle.icu_collections_sets.proofs.codepointinvlist.inversion_list.CodePointInversionList.iter_chars.Goals as goal

pub returns-clause-count : goal.returns-clause-count
returns-clause-count c = rw c.new.ensures (length_passing _)
