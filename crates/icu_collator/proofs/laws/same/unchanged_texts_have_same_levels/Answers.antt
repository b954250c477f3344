use Rattle.icu_collator.proofs.orders.OrderSamenessLemmas.{reached_levels}
use Rattle.icu_collator.proofs.laws.same.unchanged_texts_have_same_levels.Goals as goal

pub returns : goal.returns
returns g a b options text decomposing other settings same scalars = reached_levels a b options decomposing other settings text same scalars
