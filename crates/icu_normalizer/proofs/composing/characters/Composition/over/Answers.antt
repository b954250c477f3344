use Rattle.icu_normalizer.proofs.composed.FormCompositionLemmas.{composes_new}
use Rattle.icu_normalizer.proofs.composing.characters.Composition.over.Goals as goal

pub returns-clause-text : goal.returns-clause-text
returns-clause-text g c = λ cs h. composes_new g.I.Iterator.next_gives _ _ cs c.new.ensures.idle c.new.ensures.same (c.over.ensures.text cs h)
