use Rattle.std.proofs.Common.{refl}
use Rattle.icu_normalizer_core.proofs.decomposed_lists.CanonicalStepLemmas.{decomposes_stop}
use Rattle.icu_normalizer_core.proofs.decomposition.characters.Decomposition.stop.Goals as goal

pub returns-clause-text : goal.returns-clause-text
returns-clause-text g c = decomposes_stop g.I.Iterator.next_gives _ refl c.clear.ensures.held
