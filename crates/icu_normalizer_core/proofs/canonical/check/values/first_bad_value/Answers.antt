use Rattle.std.proofs.Common.{rules}
use Rattle.icu_normalizer_core.specs.CanonicalFaults.{OffendsValue}
use Rattle.icu_normalizer_core.specs.CanonicalMeaning.{lists_of}
use Rattle.icu_normalizer_core.proofs.faults.FaultLemmas.{option_through}
use Rattle.icu_normalizer_core.proofs.faults.ToldLemmas.{least_told, kept_values}
use Rattle.icu_normalizer_core.proofs.canonical.check.values.first_bad_value.Goals as goal

pub returns : goal.returns
returns c =
    least_told (OffendsValue (lists_of c.args.tables.now)) c.args.told.now (kept_values (lists_of c.args.tables.now) c.args.told.now c.requires) c.first_refused_of.result
    (option_through c.first_refused_of.result
    (λ all d scalar is_in. let good = all d scalar is_in in search rules)
    (λ d w. (w.0, let bad = w.2 in search rules, λ e scalar is_in lt. let good = w.3 e scalar is_in lt in search rules))
    c.first_refused_of.ensures)
