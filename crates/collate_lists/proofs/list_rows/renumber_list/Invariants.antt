use Rattle.std.proofs.Common.{◌≡◌, ◌++◌, take, drop}
use Rattle.collate_lists.specs.Lists.{renumbered}
use Rattle.collate_lists.proofs.list_rows.renumber_list.Given as goal

abbrev pub invariant-loop-value : goal.invariant-loop-value
invariant-loop-value l = l.value-items ≡ renumbered l.numbers (take l.value-index l.fn.list.items) ++ drop l.value-index l.fn.list.items
