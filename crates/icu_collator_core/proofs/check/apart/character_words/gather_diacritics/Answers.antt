use Rattle.std.proofs.Common.{◌≡◌, ℕ, length, subst, ap, ◌∙◌, rules, slice_index}
use Rattle.icu_collator_core.specs.TableMeaning.{secondary_word}
use Rattle.icu_collator_core.specs.WeightLists.{Grows, IsDiacriticWord}
use Rattle.icu_collator_core.proofs.apart.GatheringLemmas.{FromIndices, from_all_indices}
use Rattle.icu_collator_core.proofs.apart.GrowthLemmas.{grown_same, grown_up_to_next, grown_up_to_none}
use Rattle.icu_collator_core.proofs.check.apart.character_words.gather_diacritics.Goals as goal

abbrev Gives : ℕ → ℕ → Type 0
Gives secondary word = word ≡ secondary_word secondary

pub loop-index-init : goal.loop-index-init
loop-index-init c = grown_up_to_none (λ k word. Gives (slice_index c.args.tables.now.diacritics.secondaries k) word) c.args.words.now.items

pub loop-index-preserved : goal.loop-index-preserved
loop-index-preserved c =
    let list = c.args.tables.now.diacritics.secondaries in
    let index = c.loop-index.index in
    grown_up_to_next (λ k word. Gives (slice_index list k) word) index c.args.words.now.items c.loop-index.words.items c.gather_word.new.words.items
    c.loop-index.invariant
    (subst (λ word. Grows (λ one. one ≡ word) c.loop-index.words.items c.gather_word.new.words.items)
    (c.secondary_word.ensures ∙ ap secondary_word (c.at.ensures.item 0)) c.in_ok-gather_word.ensures)

pub returns : goal.returns
returns c =
    let list = c.args.tables.now.diacritics.secondaries in
    let many : length list ≡ c.loop-index.index = search rules in
    grown_same (FromIndices Gives list c.loop-index.index) (IsDiacriticWord c.args.tables.now) c.args.words.now.items c.loop-index.words.items
    (λ word. from_all_indices Gives list c.loop-index.index many word) c.loop-index.invariant
