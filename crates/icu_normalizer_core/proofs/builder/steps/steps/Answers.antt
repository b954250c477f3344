use Rattle.std.proofs.Common.{ℕ, ◌<◌, ◌/◌, ◌^◌, List, All, flat_map, length, slice_index, sym, subst, ◌∙◌, arith}
use Rattle.icu_normalizer_core.specs.InOrder.{AreFirstsInOrder}
use Rattle.icu_normalizer_core.specs.MapNumbers.{mapping_numbers, triple, IsMappingNumber}
use Rattle.icu_normalizer_core.proofs.building.MapNumberLemmas.{all_mapping_numbers, all_from, sorted_each, sorted_triples, sorted_listed, triples_length, keys_free}
use Rattle.icu_normalizer_core.proofs.building.NamedLemmas.{sorted_few}
use Rattle.std.proofs.lemmas.List.{length-map}
use Rattle.icu_normalizer_core.proofs.builder.steps.steps.Goals as goal

-- what is in order is in the order of the mappings' numbers
order : (c : goal.After-as_slice-2) → AreFirstsInOrder (2 ^ 42) (flat_map mapping_numbers c.args.mappings.now) c.in_ok-sorted.sorted.items
order c = subst (λ (ns : List ℕ). AreFirstsInOrder (2 ^ 42) ns c.in_ok-sorted.sorted.items) (c.as_slice.ensures.value ∙ c.in_ok-numbers.ensures) c.in_ok-sorted.ensures

each : (c : goal.After-as_slice-2) → (i : ℕ) → i < length c.in_ok-sorted.sorted.items → IsMappingNumber (slice_index c.in_ok-sorted.sorted.items i)
each c = sorted_each IsMappingNumber (2 ^ 42) (flat_map mapping_numbers c.args.mappings.now) c.in_ok-sorted.sorted.items (order c) (all_mapping_numbers c.args.mappings.now c.requires)

pub triples-requires : goal.triples-requires
triples-requires c = subst (All IsMappingNumber) (sym c.as_slice-2.ensures.value) (all_from IsMappingNumber c.in_ok-sorted.sorted.items (each c))

pub returns-clause-triples : goal.returns-clause-triples
returns-clause-triples c =
    let order : AreFirstsInOrder (2 ^ 42) (flat_map mapping_numbers c.args.mappings.now) c.in_ok-sorted.sorted.items =
    subst (λ (ns : List ℕ). AreFirstsInOrder (2 ^ 42) ns c.in_ok-sorted.sorted.items) (c.as_slice.ensures.value ∙ c.in_ok-numbers.ensures) c.in_ok-sorted.ensures in
    rw (c.in_ok-steps.ensures, c.as_slice-2.ensures.value)
    (sorted_triples c.in_ok-sorted.sorted.items order.rise
    (sorted_each IsMappingNumber (2 ^ 42) (flat_map mapping_numbers c.args.mappings.now) c.in_ok-sorted.sorted.items order (all_mapping_numbers c.args.mappings.now c.requires)))

pub returns-clause-listed : goal.returns-clause-listed
returns-clause-listed c = λ d.
    let order : AreFirstsInOrder (2 ^ 42) (flat_map mapping_numbers c.args.mappings.now) c.in_ok-sorted.sorted.items =
    subst (λ (ns : List ℕ). AreFirstsInOrder (2 ^ 42) ns c.in_ok-sorted.sorted.items) (c.as_slice.ensures.value ∙ c.in_ok-numbers.ensures) c.in_ok-sorted.ensures in
    rw (c.in_ok-steps.ensures, c.as_slice-2.ensures.value) (sorted_listed c.args.mappings.now c.in_ok-sorted.sorted.items d c.requires order)

pub returns-clause-few : goal.returns-clause-few
returns-clause-few c =
    let order : AreFirstsInOrder (2 ^ 42) (flat_map mapping_numbers c.args.mappings.now) c.in_ok-sorted.sorted.items =
    subst (λ (ns : List ℕ). AreFirstsInOrder (2 ^ 42) ns c.in_ok-sorted.sorted.items) (c.as_slice.ensures.value ∙ c.in_ok-numbers.ensures) c.in_ok-sorted.ensures in
    rw (c.in_ok-steps.ensures, c.as_slice-2.ensures.value) (omega (arith, triples_length c.in_ok-sorted.sorted.items, length-map c.in_ok-sorted.sorted.items (λ n. n / 2 ^ 42), sorted_few c.args.mappings.now c.in_ok-sorted.sorted.items c.requires order))

pub returns-clause-free : goal.returns-clause-free
returns-clause-free c =
    let order : AreFirstsInOrder (2 ^ 42) (flat_map mapping_numbers c.args.mappings.now) c.in_ok-sorted.sorted.items =
    subst (λ (ns : List ℕ). AreFirstsInOrder (2 ^ 42) ns c.in_ok-sorted.sorted.items) (c.as_slice.ensures.value ∙ c.in_ok-numbers.ensures) c.in_ok-sorted.ensures in
    rw (c.in_ok-steps.ensures, c.as_slice-2.ensures.value)
    (keys_free c.args.mappings.now (flat_map triple c.in_ok-sorted.sorted.items)
    (sorted_triples c.in_ok-sorted.sorted.items order.rise
    (sorted_each IsMappingNumber (2 ^ 42) (flat_map mapping_numbers c.args.mappings.now) c.in_ok-sorted.sorted.items order (all_mapping_numbers c.args.mappings.now c.requires)))
    (λ d. sorted_listed c.args.mappings.now c.in_ok-sorted.sorted.items d c.requires order))
