use Rattle.sort_names.specs.Operands.{Holds}
use Rattle.sort_names.proofs.OperandLemmas.{Got}
use Rattle.sort_names.proofs.operands.add_operands.Given as goal

abbrev pub invariant-loop-path : goal.invariant-loop-path
invariant-loop-path g l = Got (Holds g.F.Read.remaining g.O.Fn l.opener) l.operands l.path-index l.shape l.fn.list l.list
