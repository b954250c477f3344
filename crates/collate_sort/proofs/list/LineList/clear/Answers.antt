use Rattle.std.proofs.Common.{[]}
use Rattle.std.proofs.lemmas.List.Elements.{All-nil, All-same}
use Rattle.collate_sort.specs.Lists.{IsKeyed}
use Rattle.collate_sort.proofs.list.LineList.clear.Goals as goal

pub invariant_of-self : goal.invariant_of-self
invariant_of-self c = record {
  accepted = c.self.invariant.accepted;
  keyed = All-same (IsKeyed c.self.inside.order.now) c.clear.new.self [] c.clear.ensures (All-nil (IsKeyed c.self.inside.order.now));
}
