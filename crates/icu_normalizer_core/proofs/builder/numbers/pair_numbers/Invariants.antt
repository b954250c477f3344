use Rattle.std.proofs.Common.{◌≡◌, take, flat_map}
use Rattle.icu_normalizer_core.specs.MapNumbers.{pair_numbers}
use Rattle.icu_normalizer_core.proofs.builder.numbers.pair_numbers.Given as goal

abbrev pub invariant-loop-given : goal.invariant-loop-given
invariant-loop-given l = l.numbers.items ≡ flat_map pair_numbers (take l.given-index l.mappings)
