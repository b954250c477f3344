use Rattle.icu_normalizer_core.proofs.building.InOrderLemmas.{firsts_in_order}
use Rattle.icu_normalizer_core.proofs.builder.in_order.in_order.Goals as goal

pub returns : goal.returns
returns c =
    firsts_in_order c.args.divisor c.args.numbers.now c.in_ok-sorted.sorted.items c.in_ok-firsts.firsts c.in_ok-firsts.ensures.firsts c.in_ok-firsts.ensures.few c.values_of.ensures.ordered
    c.in_ok-sorted.ensures.values
