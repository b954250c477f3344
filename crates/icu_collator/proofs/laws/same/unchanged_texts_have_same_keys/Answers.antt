use Rattle.icu_collator.proofs.orders.OrderSamenessLemmas.{reached_keys}
use Rattle.icu_collator.proofs.laws.same.unchanged_texts_have_same_keys.Goals as goal

pub returns : goal.returns
returns g a b options text decomposing other settings same leads scalars =
    reached_keys a b options decomposing other settings text same leads scalars
