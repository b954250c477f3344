use Rattle.icu_normalizer_core.specs.FormData.{form_meaning}
use Rattle.icu_normalizer.proofs.noted.FormNoteLemmas.{nothing_low}
use Rattle.icu_normalizer.proofs.form_notes.note_at.Goals as goal

pub returns-in-None : goal.returns-in-None
returns-in-None c = nothing_low (form_meaning c.args.basis) c.args.code c.nothing.result c.nothing.ensures.len c.nothing.ensures.steady
