use Rattle.icu_collator.proofs.orders.OrderSamenessLemmas.{reached_order}
use Rattle.icu_collator.proofs.laws.same.unchanged_texts_order_alike.Goals as goal

pub returns : goal.returns
returns g a b options x y decomposing other settings same others scalars others_scalars =
    reached_order a b options decomposing other settings x y same others scalars others_scalars
