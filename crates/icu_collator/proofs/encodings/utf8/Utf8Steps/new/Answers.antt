use Rattle.icu_normalizer_core.proofs.decoded.DecodedLemmas.{utf8_scalars}
use Rattle.icu_collator.proofs.encodings.utf8.Utf8Steps.new.Goals as goal

pub returns-clause-scalars : goal.returns-clause-scalars
returns-clause-scalars c = utf8_scalars c.args.bytes.now
