use Rattle.collate_sort.proofs.ListLemmas.{sorted_keyed, sorted_listing, unchanged_listing}
use Rattle.collate_sort.proofs.list.LineList.sort.Goals as goal

pub invariant_of-self : goal.invariant_of-self
invariant_of-self c = record {
  accepted = c.self.invariant.accepted;
  keyed =
      sorted_keyed c.self.inside c.self.invariant c.args.self.now c.self.view_is c.direction.result c.direction.ensures c.sort.result c.sort.new.self
      c.sort.ensures.unchanged c.sort.ensures.sorted;
}

pub returns-clause-sorted : goal.returns-clause-sorted
returns-clause-sorted c =
    sorted_listing c.self.inside c.self.invariant c.args.self.now c.self.view_is c.direction.result c.direction.ensures c.sort.result c.sort.new.self
    c.sort.ensures.unchanged c.sort.ensures.sorted

pub returns-clause-unchanged : goal.returns-clause-unchanged
returns-clause-unchanged c = unchanged_listing c.self.inside c.self.invariant c.args.self.now c.self.view_is c.sort.result c.sort.new.self c.sort.ensures.unchanged
