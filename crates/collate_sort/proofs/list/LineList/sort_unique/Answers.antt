use Rattle.collate_sort.proofs.ListLemmas.{unique_keyed, unique_listing, unchanged_listing}
use Rattle.collate_sort.proofs.list.LineList.sort_unique.Goals as goal

pub invariant_of-self : goal.invariant_of-self
invariant_of-self c = record {
  accepted = c.self.invariant.accepted;
  keyed =
      unique_keyed c.self.inside c.self.invariant c.args.self.now c.self.view_is c.direction.result c.direction.ensures c.sort_unique.result c.sort_unique.new.self
      c.sort_unique.ensures.unchanged c.sort_unique.ensures.sorted;
}

pub returns-clause-sorted : goal.returns-clause-sorted
returns-clause-sorted c =
    unique_listing c.self.inside c.self.invariant c.args.self.now c.self.view_is c.direction.result c.direction.ensures c.sort_unique.result c.sort_unique.new.self
    c.sort_unique.ensures.unchanged c.sort_unique.ensures.sorted

pub returns-clause-unchanged : goal.returns-clause-unchanged
returns-clause-unchanged c = unchanged_listing c.self.inside c.self.invariant c.args.self.now c.self.view_is c.sort_unique.result c.sort_unique.new.self c.sort_unique.ensures.unchanged
