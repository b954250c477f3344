use Rattle.std.proofs.Common.{map}
use Rattle.collate_join.specs.Join.{is_fault}
use Rattle.collate_join.proofs.FaultLemmas.{IsBehind}
use Rattle.collate_join.proofs.first_fault.Given as goal

abbrev pub invariant-loop-i : goal.invariant-loop-i
invariant-loop-i l = IsBehind (λ line. is_fault (map (λ other. other.now) l.root) line.now) l.tailoring l.i
