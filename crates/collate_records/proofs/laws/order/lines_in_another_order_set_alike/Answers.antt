use Rattle.collate_records.proofs.comparing.LineOrderLemmas.{same_settings}
use Rattle.collate_records.proofs.laws.order.lines_in_another_order_set_alike.Goals as goal

pub returns : goal.returns
returns c = λ a b moved new. same_settings a b moved new
