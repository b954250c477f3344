use Rattle.std.proofs.Common.{length}
use Rattle.icu_normalizer_core.specs.Canonical.{composed}
use Rattle.icu_normalizer.specs.Normalizers.{composing_data}
use Rattle.icu_normalizer.specs.Sinks.{HasTaken}
use Rattle.icu_normalizer.specs.Writer.{AddsFront}
use Rattle.icu_normalizer.proofs.composing.normalizer.ComposingNormalizerBorrowedWriteForm.write_rest.Given as goal

abbrev pub invariant-clusters : goal.invariant-clusters
invariant-clusters g l =
    AddsFront (g.T.WriteTo.contents l.fn.sink) (g.T.Text.encode (composed (composing_data l.fn.self) (g.T.Text.spelled l.fn.text).characters))
    (g.T.Text.encode (composed (composing_data l.fn.self) (g.T.Text.spelled l.left).characters)) (g.T.WriteTo.contents l.sink)
    × HasTaken g.T.WriteTo.takes l.fn.sink l.sink

abbrev pub decreases-clusters : goal.decreases-clusters
decreases-clusters g l = length (g.T.Text.spelled l.left).characters
