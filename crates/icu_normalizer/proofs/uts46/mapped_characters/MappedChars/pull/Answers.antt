use Rattle.std.proofs.Common.{refl}
use Rattle.icu_normalizer.proofs.noted.MappedLemmas.{mapped_read, mapped_ended}
use Rattle.icu_normalizer.proofs.uts46.mapped_characters.MappedChars.pull.Goals as goal

pub returns-in-Some-clause-text : goal.returns-in-Some-clause-text
returns-in-Some-clause-text g c =
    mapped_read g.I.Iterator.next_gives _ _ c.in-Some.c c.requires.running c.requires.empty c.in-Some.ensures.steps c.requires.running c.list-self.ensures.list (λ text. refl)

pub returns-in-None-clause-text : goal.returns-in-None-clause-text
returns-in-None-clause-text g c = mapped_ended g.I.Iterator.next_gives _ _ _ c.requires.running c.in-None.ensures.steps refl refl
