use Rattle.icu_normalizer.proofs.passed.FormTextLemmas.{str_characters}
use Rattle.icu_normalizer.proofs.text_sources.known.RefStrText.keep_promise.Goals as goal

pub returns : goal.returns
returns c = str_characters c.args.self.now c.utf8.self
