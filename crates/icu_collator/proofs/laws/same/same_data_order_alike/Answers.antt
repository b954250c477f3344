use Rattle.icu_collator.proofs.orders.OrderSamenessLemmas.{order_same}
use Rattle.icu_collator.proofs.laws.same.same_data_order_alike.Goals as goal

pub returns : goal.returns
returns g a b options x y characters weights settings = order_same a b options settings characters weights x y
