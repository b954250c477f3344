use Rattle.std.proofs.Common.{ℕ, List, flat_map, take}
use Rattle.collate_rules.specs.Lists.{IsFront}
use Rattle.collate_mapping_rules.specs.Fronts.{AreFronts}
use Rattle.collate_mapping_rules.proofs.fronts.joined_fronts.Given as goal

abbrev pub invariant-loop-c : goal.invariant-loop-c
invariant-loop-c l = (full : ℕ → List ℕ) → AreFronts full l.fronts → IsFront l.front (flat_map full (take l.c-index l.characters))
