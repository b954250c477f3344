use Rattle.std.proofs.Common.{◌≡◌, ℕ, List, ◌++◌}
use Rattle.icu_normalizer_core.specs.Canonical.{composed}
use Rattle.icu_normalizer.specs.ClusterForm.{IsBegun, form_left, form_size}
use Rattle.icu_normalizer.specs.Normalizers.{composing_data}
use Rattle.icu_normalizer.specs.Sinks.{HasTaken}
use Rattle.icu_normalizer.proofs.composing.normalizer.ComposingNormalizerBorrowed.write_cluster.Given as goal

abbrev pub invariant-chars : goal.invariant-chars
invariant-chars g l =
    (seen : List ℕ)
    × (composed (composing_data l.fn.self) (g.T.Text.spelled l.fn.text).characters ≡ seen ++ (form_left l.form ++ composed (composing_data l.fn.self) (g.T.Text.spelled l.rest).characters))
    × (g.T.WriteTo.contents l.sink ≡ g.T.WriteTo.contents l.fn.sink ++ g.T.Text.encode seen)
    × HasTaken g.T.WriteTo.takes l.fn.sink l.sink
    × IsBegun l.form

abbrev pub decreases-chars : goal.decreases-chars
decreases-chars g l = form_size l.form
