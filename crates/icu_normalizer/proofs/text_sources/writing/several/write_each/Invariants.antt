use Rattle.std.proofs.Common.{◌≡◌, ◌++◌, take}
use Rattle.icu_normalizer.specs.Texts.{encode_utf16_all}
use Rattle.icu_normalizer.specs.Sinks.{HasTaken}
use Rattle.icu_normalizer.proofs.text_sources.writing.several.write_each.Given as goal

abbrev pub invariant-loop-c : goal.invariant-loop-c
invariant-loop-c g l =
    (g.S.UnitSink.contents l.sink ≡ g.S.UnitSink.contents l.fn.sink ++ encode_utf16_all (take l.c-index l.chars))
    × HasTaken g.S.UnitSink.takes l.fn.sink l.sink
