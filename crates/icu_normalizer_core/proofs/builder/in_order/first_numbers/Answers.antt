use Rattle.std.proofs.Common.{slice_index, refl}
use Rattle.icu_normalizer_core.proofs.building.InOrderLemmas.{few_more, firsts_noted}
use Rattle.icu_normalizer_core.proofs.builder.in_order.first_numbers.Goals as goal

pub loop-n-preserved : goal.loop-n-preserved
loop-n-preserved c = (
  firsts_noted c.args.divisor c.args.numbers.now c.loop-n.n-index (slice_index c.args.numbers.now c.loop-n.n-index) c.loop-n.firsts c.note_first.new.firsts c.loop-n-test.true refl c.loop-n.invariant.0
      c.in_ok-note_first.ensures.noted,
  few_more _ _ _ c.in_ok-note_first.ensures.few c.loop-n.invariant.1,
)
