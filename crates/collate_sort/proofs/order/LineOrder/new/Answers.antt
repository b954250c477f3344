use Rattle.collate_sort.proofs.order.LineOrder.new.Goals as goal

pub invariant_of-result : goal.invariant_of-result
invariant_of-result c = record {
  accepted = c.keep_rules.ensures.accepted;
  options = c.args.options.now;
  preferences = c.args.preferences.now;
  collator = c.in_ok-collator.ensures;
}
