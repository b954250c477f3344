use Rattle.icu_collator.proofs.lists.ListSpelledLemmas.{spells_same}
use Rattle.icu_collator.proofs.encodings.Latin1TextCharacters.chars.Goals as goal

pub returns-clause-spelled : goal.returns-clause-spelled
returns-clause-spelled c = spells_same c.new.result _ c.new.ensures.chars
