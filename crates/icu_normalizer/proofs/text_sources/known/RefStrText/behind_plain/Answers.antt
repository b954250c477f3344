use Rattle.icu_normalizer.proofs.cuts.CutLemmas.{plain_boundary}
use Rattle.icu_normalizer.proofs.passed.FormTextLemmas.{str_behind_plain}
use Rattle.icu_normalizer.proofs.text_sources.known.RefStrText.behind_plain.Goals as goal

pub range_from-requires : goal.range_from-requires
range_from-requires c = λ _. plain_boundary _ _ c.utf8.self c.requires.within c.requires.plain

pub returns-clause-characters : goal.returns-clause-characters
returns-clause-characters c = str_behind_plain c.args.self.now c.args.count c.requires.plain _ c.utf8.self c.range_from.utf8 c.range_from.ensures.value
