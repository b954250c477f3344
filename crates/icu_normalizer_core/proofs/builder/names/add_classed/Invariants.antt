use Rattle.std.proofs.Common.{◌≡◌, ◌++◌, map, take}
use Rattle.icu_normalizer_core.proofs.builder.names.add_classed.Given as goal

abbrev pub invariant-loop-given : goal.invariant-loop-given
invariant-loop-given l = l.list.items ≡ l.initial.list.items ++ map (λ g. g.character) (take l.given-index l.classes)
