use Rattle.icu_collator.proofs.orders.OrderSamenessLemmas.{bytes_same}
use Rattle.icu_collator.proofs.laws.same.same_levels_have_same_keys.Goals as goal

pub returns : goal.returns
returns g a b options levels leads moved = bytes_same a b options levels leads moved
