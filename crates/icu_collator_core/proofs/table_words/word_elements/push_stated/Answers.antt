use Rattle.std.proofs.Common.{◌∙◌, ◌+◌, ap}
use Rattle.std.specs.Prelude.{filter_map, slice_get}
use Rattle.std.specs.Option.{option_and_then}
use Rattle.icu_normalizer_core.specs.CanonicalWords.{items_at}
use Rattle.icu_collator_core.specs.Pools.{stated_element}
use Rattle.icu_collator_core.proofs.lookups.PackedLemmas.{adds_none, adds_one}
use Rattle.icu_collator_core.proofs.lookups.PartLemmas.{filtered_more}
use Rattle.icu_collator_core.proofs.table_words.word_elements.push_stated.Goals.{in-Some+in_ok-push, in_default}
use Rattle.icu_collator_core.proofs.table_words.word_elements.push_stated.Goals as goal

pub loop-i-preserved : goal.loop-i-preserved
loop-i-preserved c =
    let list = c.args.ce32s.now in
    let index = c.args.index in
    let i = c.loop-i.i in
    let more = filtered_more stated_element list index i in
    let seen = filter_map stated_element (items_at list index i) in
    let all = filter_map stated_element (items_at list index (i + 1)) in
    let found = option_and_then stated_element (slice_get list (index + i)) in
    elim c.match-stated_at.branch [
      | in-Some+in_ok-push w ↦ adds_one c.args.elements.now.items c.loop-i.elements.items c.match-stated_at.elements.items seen all found
          w.in-Some.element c.loop-i.invariant more w.in-Some.ensures (ap (λ v. v.items) w.elements-is ∙ w.in_ok-push.ensures.ok)
      | in_default w ↦ adds_none c.args.elements.now.items c.loop-i.elements.items c.match-stated_at.elements.items seen all found
          c.loop-i.invariant more w.in_default.ensures (ap (λ v. v.items) w.elements-is)
    ]
