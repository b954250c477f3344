use Rattle.collate_laws.proofs.UnchangedLemmas.{lone_unchanged}
use Rattle.collate_laws.proofs.unchanged.unchanged_characters_have_the_same_elements.Goals as goal

pub returns : goal.returns
returns g = λ old new options more preferences preferred a b c settings first second same scalar. lone_unchanged old new options more preferences preferred a b settings first second c same scalar
