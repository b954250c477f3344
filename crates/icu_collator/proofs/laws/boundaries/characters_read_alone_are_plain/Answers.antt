use Rattle.icu_collator.proofs.boundaries.TableBoundaryLemmas.{alone_plain}
use Rattle.icu_collator.proofs.laws.boundaries.characters_read_alone_are_plain.Goals as goal

pub returns : goal.returns
returns c = alone_plain
