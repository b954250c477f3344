use Rattle.collate_records.proofs.comparing.LineOrderLemmas.{same_composing}
use Rattle.collate_records.proofs.laws.order.lines_in_another_order_compose_alike.Goals as goal

pub returns : goal.returns
returns c = λ a b moved new once. same_composing a b moved new once
