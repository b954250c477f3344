use Rattle.std.proofs.Common.{◌≡◌, length}
use Rattle.collate_name_list.specs.Slots.{names_in}
use Rattle.collate_name_list.proofs.arrived.ArrivedIterator.next.Given as goal

abbrev pub invariant-loop-self : goal.invariant-loop-self
invariant-loop-self l = names_in l.self-inside.left.now ≡ names_in l.initial.self-inside.left.now

abbrev pub decreases-loop-self : goal.decreases-loop-self
decreases-loop-self l = length l.self-inside.left.now
