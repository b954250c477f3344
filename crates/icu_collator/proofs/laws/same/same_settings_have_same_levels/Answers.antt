use Rattle.icu_collator.proofs.orders.OrderSamenessLemmas.{elements_levels_same}
use Rattle.icu_collator.proofs.laws.same.same_settings_have_same_levels.Goals as goal

pub returns : goal.returns
returns g a b options elements list settings = elements_levels_same a b options settings elements list
