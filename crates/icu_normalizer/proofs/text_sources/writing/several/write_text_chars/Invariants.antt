use Rattle.std.proofs.Common.{◌≡◌, ◌++◌, take}
use Rattle.std.specs.Prelude.{encode_utf8_all}
use Rattle.icu_normalizer.specs.Sinks.{HasTaken}
use Rattle.icu_normalizer.proofs.text_sources.writing.several.write_text_chars.Given as goal

abbrev pub invariant-loop-c : goal.invariant-loop-c
invariant-loop-c g l =
    (g.S.TextSink.contents l.sink ≡ g.S.TextSink.contents l.fn.sink ++ encode_utf8_all (take l.c-index l.chars))
    × HasTaken g.S.TextSink.takes l.fn.sink l.sink
