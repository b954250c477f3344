use Rattle.std.proofs.Common.{◌≡◌, ◌++◌, map, take}
use Rattle.collate_weight_rules.proofs.given.push_placed.Given as goal

abbrev pub invariant-loop-e : goal.invariant-loop-e
invariant-loop-e l = l.placed.items ≡ l.initial.placed.items ++ map (λ e. (e, l.line)) (take l.e-index l.elements)
