use Rattle.std.proofs.Common.{arith}
use Rattle.std.proofs.lemmas.Grind.{common_steps}
use Rattle.icu_normalizer_core.proofs.decoded.Utf16Lemmas.{first_lone}
use Rattle.icu_normalizer_core.proofs.decoding.first_char.Goals as goal

pub returns-in-len1-up : goal.returns-in-len1-up
returns-in-len1-up c = grind (arith, common_steps, first_lone)
