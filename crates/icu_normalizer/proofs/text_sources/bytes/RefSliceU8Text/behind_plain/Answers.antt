use Rattle.icu_normalizer.proofs.passed.FormTextLemmas.{utf8_behind_plain}
use Rattle.icu_normalizer.proofs.text_sources.bytes.RefSliceU8Text.behind_plain.Goals as goal

pub returns-clause-characters : goal.returns-clause-characters
returns-clause-characters c = utf8_behind_plain c.args.self.now c.args.count c.requires.plain
