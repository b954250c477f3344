use Rattle.icu_collator.proofs.orders.OrderSamenessLemmas.{keys_same}
use Rattle.icu_collator.proofs.laws.same.same_data_have_same_keys.Goals as goal

pub returns : goal.returns
returns g a b options text characters weights settings = keys_same a b options settings characters weights text
