use Rattle.std.proofs.Common.{refl}
use Rattle.icu_normalizer_core.proofs.decomposed_lists.CanonicalStepLemmas.{decomposes_new}
use Rattle.icu_normalizer_core.proofs.decomposition.characters.Decomposition.over.Goals as goal

pub returns-clause-text : goal.returns-clause-text
returns-clause-text g c = λ cs h. decomposes_new g.I.Iterator.next_gives _ _ cs refl c.new.ensures.held c.new.ensures.same h
