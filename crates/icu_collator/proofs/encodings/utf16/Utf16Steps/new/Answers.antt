use Rattle.icu_normalizer_core.proofs.decoded.DecodedLemmas.{unit_scalars}
use Rattle.icu_collator.proofs.encodings.utf16.Utf16Steps.new.Goals as goal

pub returns-clause-scalars : goal.returns-clause-scalars
returns-clause-scalars c = unit_scalars c.args.units.now (λ i. (c.type_inv.units i).fits)
