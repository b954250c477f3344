use Rattle.collate_lists.proofs.Renumbering.{AreRenumberedBefore}
use Rattle.collate_lists.proofs.list_rows.renumber.Given as goal

abbrev pub invariant-loop-part : goal.invariant-loop-part
invariant-loop-part l = AreRenumberedBefore l.numbers l.part l.fn.lists.items l.lists.items
