use Rattle.std.proofs.Common.{◌≡◌, length}
use Rattle.std.specs.List.{flat_map}
use Rattle.icu_normalizer_core.specs.Canonical.{decomposed}
use Rattle.icu_normalizer.specs.Normalizers.{normalizer_data}
use Rattle.icu_normalizer.specs.Sinks.{HasTaken}
use Rattle.icu_normalizer.specs.Writer.{AddsFront, due, writer_data}
use Rattle.icu_normalizer.proofs.decomposing.normalizer.DecomposingNormalizerBorrowedWriteForm.write_rest.Given as goal

abbrev pub invariant-chars : goal.invariant-chars
invariant-chars g l =
    AddsFront (g.T.WriteTo.contents l.fn.sink) (g.T.Text.encode (decomposed (normalizer_data l.fn.self) (g.T.Text.spelled l.fn.text).characters))
    (due g.T.Text.encode l.writer (flat_map (normalizer_data l.fn.self).full (g.T.Text.spelled l.left).characters)) (g.T.WriteTo.contents l.sink)
    × (writer_data l.writer ≡ normalizer_data l.fn.self)
    × HasTaken g.T.WriteTo.takes l.fn.sink l.sink

abbrev pub decreases-chars : goal.decreases-chars
decreases-chars g l = length (g.T.Text.spelled l.left).units
