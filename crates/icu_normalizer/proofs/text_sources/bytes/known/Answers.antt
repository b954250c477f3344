use Rattle.icu_normalizer.proofs.passed.FormTextLemmas.{undamaged_utf8}
use Rattle.icu_normalizer.proofs.text_sources.bytes.known.Goals as goal

pub from_utf8_unchecked-requires : goal.from_utf8_unchecked-requires
from_utf8_unchecked-requires c = undamaged_utf8 c.args.bytes.now c.requires
