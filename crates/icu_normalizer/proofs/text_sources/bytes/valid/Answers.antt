use Rattle.std.proofs.Common.{ap, ◌∙◌, chars}
use Rattle.icu_normalizer.proofs.passed.FormTextLemmas.{undamaged_utf8, utf8_same, utf8_undamaged}
use Rattle.icu_normalizer.proofs.text_sources.bytes.valid.Goals as goal

pub returns-in-Ok-clause-read : goal.returns-in-Ok-clause-read
returns-in-Ok-clause-read c = ap chars c.in-Ok.ensures.0 ∙ utf8_same c.args.bytes.now c.in-Ok.ensures.1

pub returns-in-Ok-clause-undamaged : goal.returns-in-Ok-clause-undamaged
returns-in-Ok-clause-undamaged c = utf8_undamaged c.args.bytes.now c.in-Ok.ensures.1

pub returns-in-Err-clause-damaged : goal.returns-in-Err-clause-damaged
returns-in-Err-clause-damaged c own = c.in-Err.ensures (undamaged_utf8 c.args.bytes.now own)
