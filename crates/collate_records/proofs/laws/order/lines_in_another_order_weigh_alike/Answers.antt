use Rattle.collate_records.proofs.comparing.LineOrderLemmas.{same_weights}
use Rattle.collate_records.proofs.laws.order.lines_in_another_order_weigh_alike.Goals as goal

pub returns : goal.returns
returns c = λ a b moved new apart. same_weights a b moved new apart
