use Rattle.std.proofs.Common.{◌≡◌, take, flat_map}
use Rattle.icu_normalizer_core.specs.MapNumbers.{triple}
use Rattle.icu_normalizer_core.proofs.builder.numbers.triples.Given as goal

abbrev pub invariant-loop-n : goal.invariant-loop-n
invariant-loop-n l = l.parts.items ≡ flat_map triple (take l.n-index l.numbers)
