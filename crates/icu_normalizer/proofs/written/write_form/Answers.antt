use Rattle.icu_normalizer.specs.Sinks.{nothing}
use Rattle.icu_normalizer.proofs.written.write_form.Goals as goal

pub returns-in_default-clause-failure : goal.returns-in_default-clause-failure
returns-in_default-clause-failure g c = nothing _
