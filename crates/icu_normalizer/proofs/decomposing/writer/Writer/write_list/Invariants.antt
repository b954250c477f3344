use Rattle.std.proofs.Common.{◌≡◌, ◌++◌}
use Rattle.icu_normalizer.specs.Sinks.{HasTaken}
use Rattle.icu_normalizer.specs.Writer.{writer_data, Writes}
use Rattle.icu_normalizer.proofs.decomposing.writer.Writer.write_list.Given as goal

abbrev pub invariant-loop-d : goal.invariant-loop-d
invariant-loop-d g l =
    Writes g.T.Text.encode l.initial.self l.yielded (g.T.WriteTo.contents l.fn.sink) (g.T.WriteTo.contents l.sink) l.self
    × (writer_data l.self ≡ writer_data l.initial.self)
    × (l.yielded ++ l.d-iterator ≡ (writer_data l.initial.self).full l.fn.c)
    × HasTaken g.T.WriteTo.takes l.fn.sink l.sink
