use Rattle.std.proofs.Common.{◌≡◌, ◌++◌, ◌∷◌, flat_map, take}
use Rattle.icu_normalizer_core.proofs.builder.names.add_compatible.Given as goal

abbrev pub invariant-loop-one : goal.invariant-loop-one
invariant-loop-one l = l.list.items ≡ l.initial.list.items ++ flat_map (λ g. g.character ∷ g.mapping.items) (take l.one-index l.given)
