use Rattle.std.proofs.Common.{ℕ, ◌^◌, List, flat_map, subst, ◌∙◌}
use Rattle.icu_normalizer_core.specs.InOrder.{AreFirstsInOrder}
use Rattle.icu_normalizer_core.specs.MapNumbers.{pair_numbers, IsPairNumber}
use Rattle.icu_normalizer_core.proofs.building.MapNumberLemmas.{all_pair_numbers, sorted_each, sorted_pairs, sorted_listed_pair}
use Rattle.icu_normalizer_core.proofs.builder.pairs.pairs.Goals as goal

pub returns-clause-pairs : goal.returns-clause-pairs
returns-clause-pairs c =
    let order : AreFirstsInOrder (2 ^ 21) (flat_map pair_numbers c.args.mappings.now) c.in_ok-sorted.sorted.items =
    subst (λ (ns : List ℕ). AreFirstsInOrder (2 ^ 21) ns c.in_ok-sorted.sorted.items) (c.as_slice.ensures.value ∙ c.in_ok-numbers.ensures) c.in_ok-sorted.ensures in
    sorted_pairs c.in_ok-sorted.sorted.items order.rise
    (sorted_each IsPairNumber (2 ^ 21) (flat_map pair_numbers c.args.mappings.now) c.in_ok-sorted.sorted.items order (all_pair_numbers c.args.mappings.now c.requires))

pub returns-clause-listed : goal.returns-clause-listed
returns-clause-listed c = λ a b below.
    let order : AreFirstsInOrder (2 ^ 21) (flat_map pair_numbers c.args.mappings.now) c.in_ok-sorted.sorted.items =
    subst (λ (ns : List ℕ). AreFirstsInOrder (2 ^ 21) ns c.in_ok-sorted.sorted.items) (c.as_slice.ensures.value ∙ c.in_ok-numbers.ensures) c.in_ok-sorted.ensures in
    sorted_listed_pair c.args.mappings.now c.in_ok-sorted.sorted.items a b c.requires below order
