use Rattle.icu_normalizer.proofs.passed.FormTextLemmas.{utf8_characters}
use Rattle.icu_normalizer.proofs.text_sources.bytes.RefSliceU8Text.keep_promise.Goals as goal

pub returns : goal.returns
returns c = utf8_characters c.args.self.now
