use Rattle.collate_sort.proofs.ListLemmas.{unordered_first, unordered_none}
use Rattle.collate_sort.proofs.list.LineList.first_unordered.Goals as goal

pub returns-clause-none : goal.returns-clause-none
returns-clause-none c =
    unordered_none c.self.inside c.self.invariant c.args.self.now c.self.view_is c.direction.result c.direction.ensures c.args.unique c.first_unordered.result c.first_unordered.ensures.none

pub returns-clause-first : goal.returns-clause-first
returns-clause-first c =
    unordered_first c.self.inside c.self.invariant c.args.self.now c.self.view_is c.direction.result c.direction.ensures c.args.unique c.first_unordered.result c.first_unordered.ensures.first
