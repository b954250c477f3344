use Rattle.std.proofs.Common.{[]}
use Rattle.std.proofs.lemmas.List.Elements.{All-nil, All-same}
use Rattle.collate_sort.specs.Lists.{IsKeyed}
use Rattle.collate_sort.proofs.list.LineList.new.Goals as goal

pub invariant_of-result : goal.invariant_of-result
invariant_of-result c = record {
  accepted = c.keep_rules.ensures;
  keyed = All-same (IsKeyed c.args.order.now) c.new.result [] c.new.ensures (All-nil (IsKeyed c.args.order.now));
}
