use Rattle.std.proofs.Common.{◌≡◌, ◌↔◌, ◌<◌, length, ap, ◌∙◌, subst, sym, rules, SFits}
use Rattle.std.specs.Int.{cast_unsigned, w32}
use Rattle.std.proofs.lemmas.Int.{to_z-of_z}
use Rattle.icu_collator_core.proofs.apart.GatheringLemmas.{EntryAt, HasEntry, all_entries, entry_read}
use Rattle.icu_collator_core.proofs.apart.GrowthLemmas.{UpTo, grown_same, grown_up_to_next, grown_up_to_none}
use Rattle.icu_collator_core.proofs.check.apart.character_words.gather_listed.Goals as goal

pub loop-index-init : goal.loop-index-init
loop-index-init c = grown_up_to_none (EntryAt c.args.list.now.items) c.args.words.now.items

pub loop-index-preserved : goal.loop-index-preserved
loop-index-preserved c =
    let list = c.args.list.now.items in
    let index = c.loop-index.index in
    let inside : index < length list = search rules in
    let fits : SFits w32 c.index.result.now.1 = search rules in
    let value : c.cast_unsigned.result ≡ cast_unsigned w32 c.index.result.now.1 =
    c.cast_unsigned.ensures ∙ ap (cast_unsigned w32) (to_z-of_z w32 c.index.result.now.1 fits) in
    grown_up_to_next (EntryAt list) index c.args.words.now.items c.loop-index.words.items c.gather_word.new.words.items c.loop-index.invariant
    (grown_same (λ word. word ≡ c.cast_unsigned.result) (EntryAt list index) c.loop-index.words.items c.gather_word.new.words.items
    (λ word. subst (λ value. (word ≡ value) ↔ EntryAt list index word) (sym value)
    (entry_read list index c.index.result.now inside c.index.ensures word))
    c.in_ok-gather_word.ensures)

pub returns : goal.returns
returns c =
    let list = c.args.list.now.items in
    let many : length list ≡ c.loop-index.index = search rules in
    grown_same (UpTo (EntryAt list) c.loop-index.index) (HasEntry list) c.args.words.now.items c.loop-index.words.items
    (all_entries list c.loop-index.index many) c.loop-index.invariant
