use Rattle.std.proofs.Common.{◌≡◌, length, subst, rules, slice_index}
use Rattle.std.specs.List.{Contains}
use Rattle.icu_collator_core.specs.WeightLists.{Grows}
use Rattle.icu_collator_core.proofs.apart.GatheringLemmas.{FromIndices, from_own_indices}
use Rattle.icu_collator_core.proofs.apart.GrowthLemmas.{grown_same, grown_up_to_next, grown_up_to_none}
use Rattle.icu_collator_core.proofs.check.apart.character_words.gather_jamo.Goals as goal

pub loop-index-init : goal.loop-index-init
loop-index-init c = grown_up_to_none (λ k word. word ≡ slice_index c.args.tables.now.jamo.ce32s k) c.args.words.now.items

pub loop-index-preserved : goal.loop-index-preserved
loop-index-preserved c =
    let list = c.args.tables.now.jamo.ce32s in
    let index = c.loop-index.index in
    grown_up_to_next (λ k word. word ≡ slice_index list k) index c.args.words.now.items c.loop-index.words.items c.gather_word.new.words.items
    c.loop-index.invariant
    (subst (λ word. Grows (λ one. one ≡ word) c.loop-index.words.items c.gather_word.new.words.items)
    (c.at.ensures.item 0) c.in_ok-gather_word.ensures)

pub returns : goal.returns
returns c =
    let list = c.args.tables.now.jamo.ce32s in
    let many : length list ≡ c.loop-index.index = search rules in
    grown_same (FromIndices (λ own word. word ≡ own) list c.loop-index.index) (Contains list) c.args.words.now.items c.loop-index.words.items
    (from_own_indices list c.loop-index.index many) c.loop-index.invariant
