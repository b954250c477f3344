use Rattle.std.proofs.Common.{◌≡◌, ◌++◌}
use Rattle.icu_normalizer_core.specs.Decoding.{utf8_chars}
use Rattle.tests_icu_normalizer.proofs.decoding.kept_utf8.Given as goal

abbrev pub invariant-loop-c : goal.invariant-loop-c
invariant-loop-c l = l.chars.items ++ l.c-iterator ≡ utf8_chars l.bytes
