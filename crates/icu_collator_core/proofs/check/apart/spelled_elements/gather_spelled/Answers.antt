use Rattle.std.proofs.Common.{◌≡◌, [], length, slice_index, unwrap_or, rules}
use Rattle.icu_collator_core.specs.ElementLists.{unpacked}
use Rattle.icu_collator_core.specs.Pools.{elements_of_word}
use Rattle.icu_collator_core.specs.PrefixFaults.{Spells}
use Rattle.icu_collator_core.specs.TableMeaning.{pools_of}
use Rattle.icu_collator_core.specs.WeightLists.{AreSpelling}
use Rattle.icu_collator_core.proofs.apart.GatheringLemmas.{FromIndices, from_all_indices}
use Rattle.icu_collator_core.proofs.apart.GrowthLemmas.{grown_behind, grown_same, grown_up_to_next, grown_up_to_none}
use Rattle.icu_collator_core.proofs.apart.ApartSpellingLemmas.{optional}
use Rattle.icu_collator_core.proofs.check.apart.spelled_elements.gather_spelled.Goals as goal

pub loop-index-init : goal.loop-index-init
loop-index-init c = grown_up_to_none (λ k e. Spells (pools_of c.args.source.now) (slice_index c.args.words.now k) e) (unpacked c.args.elements.now.items)

pub loop-index-preserved : goal.loop-index-preserved
loop-index-preserved c =
    let pools = pools_of c.args.source.now in
    let words = c.args.words.now in
    let index = c.loop-index.index in
    grown_up_to_next (λ k e. Spells pools (slice_index words k) e) index (unpacked c.args.elements.now.items) (unpacked c.loop-index.elements.items)
    (unpacked c.push_elements.new.elements.items) c.loop-index.invariant
    (grown_behind (Spells pools (slice_index words index)) (unpacked c.loop-index.elements.items) (unwrap_or (elements_of_word pools (slice_index words index)) [])
    (unpacked c.push_elements.new.elements.items)
    c.in_ok-push_elements.ensures.elements
    (optional (elements_of_word pools (slice_index words index))))

pub returns : goal.returns
returns c =
    let pools = pools_of c.args.source.now in
    let words = c.args.words.now in
    let many : length words ≡ c.loop-index.index = search rules in
    grown_same (FromIndices (Spells pools) words c.loop-index.index) (AreSpelling pools words) (unpacked c.args.elements.now.items) (unpacked c.loop-index.elements.items)
    (from_all_indices (Spells pools) words c.loop-index.index many) c.loop-index.invariant
