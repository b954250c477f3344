use Rattle.std.proofs.Common.{◌≡◌, ◌++◌, ◌∷◌, flat_map, take}
use Rattle.icu_normalizer_core.specs.CanonicalMaps.{mapping_given}
use Rattle.icu_normalizer_core.proofs.builder.names.add_mapped.Given as goal

abbrev pub invariant-loop-given : goal.invariant-loop-given
invariant-loop-given l = l.list.items ≡ l.initial.list.items ++ flat_map (λ g. g.character ∷ mapping_given g) (take l.given-index l.mappings)
