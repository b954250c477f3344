use Rattle.std.proofs.Common.{◌∙◌, ◌+◌, Some, ap}
use Rattle.std.specs.Prelude.{map, option_map, slice_get}
use Rattle.icu_normalizer_core.specs.CanonicalWords.{items_at}
use Rattle.icu_collator_core.specs.Pools.{element_of}
use Rattle.icu_collator_core.proofs.lookups.PackedLemmas.{adds_none, adds_one}
use Rattle.icu_collator_core.proofs.lookups.PartLemmas.{mapped_more}
use Rattle.icu_collator_core.proofs.table_words.word_elements.push_unpacked.Goals.{in-Some+in_ok-push, in_default}
use Rattle.icu_collator_core.proofs.table_words.word_elements.push_unpacked.Goals as goal

pub loop-i-preserved : goal.loop-i-preserved
loop-i-preserved c =
    let list = c.args.ces.now in
    let index = c.args.index in
    let i = c.loop-i.i in
    let more = mapped_more element_of list index i in
    let seen = map element_of (items_at list index i) in
    let all = map element_of (items_at list index (i + 1)) in
    let found = option_map element_of (slice_get list (index + i)) in
    elim c.match-get.branch [
      | in-Some+in_ok-push w ↦ adds_one c.args.elements.now.items c.loop-i.elements.items c.match-get.elements.items seen all found
          w.new.result c.loop-i.invariant more (ap (λ b. Some (element_of b)) w.new.ensures ∙ ap (option_map element_of) w.in-Some.ensures.item)
          (ap (λ v. v.items) w.elements-is ∙ w.in_ok-push.ensures.ok)
      | in_default w ↦ adds_none c.args.elements.now.items c.loop-i.elements.items c.match-get.elements.items seen all found
          c.loop-i.invariant more (ap (option_map element_of) w.in_default.ensures.item) (ap (λ v. v.items) w.elements-is)
    ]
