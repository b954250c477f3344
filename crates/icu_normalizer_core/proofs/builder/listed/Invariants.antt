use Rattle.std.proofs.Common.{◌≡◌, ◌∷◌, take, All}
use Rattle.std.specs.Char.{IsScalar}
use Rattle.icu_normalizer_core.proofs.builder.listed.Given as goal

abbrev pub invariant-loop-c : goal.invariant-loop-c
invariant-loop-c l = (l.list.items ≡ l.fn.first ∷ take l.c-index l.others) × All IsScalar l.list.items
