use Rattle.std.proofs.Common.{◌≡◌, ℕ, ℤ, ◌<◌, length, ap, ◌∙◌, subst, rules, SFits}
use Rattle.std.specs.Int.{cast_unsigned, w32}
use Rattle.std.proofs.lemmas.Int.{to_z-of_z}
use Rattle.icu_collator_core.specs.declared.check.walks.Reading.{Reading}
use Rattle.icu_collator_core.specs.declared.unsafe_characters.context_texts.Met.{Met}
use Rattle.icu_collator_core.specs.TableMeaning.{pools_of}
use Rattle.icu_collator_core.specs.UnsafeWords.{ReadingGives}
use Rattle.icu_collator_core.specs.WeightLists.{Grows}
use Rattle.icu_collator_core.proofs.apart.GrowthLemmas.{UpTo, grown_same, grown_up_to_next, grown_up_to_none}
use Rattle.icu_collator_core.proofs.unsafety.EntryLemmas.{GivesAt, all_given, given_at}
use Rattle.icu_collator_core.proofs.unsafe_characters.context_texts.gather_readings.Goals as goal

pub loop-index-init : goal.loop-index-init
loop-index-init c =
    grown_up_to_none
    (GivesAt (λ (one : Reading Met × ℤ) (d : ℕ). ReadingGives (pools_of c.args.source.now) c.args.test.now.many one.0 (cast_unsigned w32 one.1) d) c.args.readings.now.items)
    c.args.characters.now.items

pub loop-index-preserved : goal.loop-index-preserved
loop-index-preserved c =
    let pools = pools_of c.args.source.now in
    let many = c.args.test.now.many in
    let Gives = λ (one : Reading Met × ℤ) (d : ℕ). ReadingGives pools many one.0 (cast_unsigned w32 one.1) d in
    let list = c.args.readings.now.items in
    let index = c.loop-index.index in
    let before = c.loop-index.characters.items in
    let after = c.gather_reading.new.characters.items in
    let entry = c.index-entry.result.now in
    let inside : index < length list = search rules in
    let fits : SFits w32 entry.1 = search rules in
    let value : c.cast_unsigned.result ≡ cast_unsigned w32 entry.1 =
    c.cast_unsigned.ensures ∙ ap (cast_unsigned w32) (to_z-of_z w32 entry.1 fits) in
    grown_up_to_next (GivesAt Gives list) index c.args.characters.now.items before after c.loop-index.invariant
    (grown_same (Gives entry) (GivesAt Gives list index) before after
    (given_at Gives list index entry inside c.index-entry.ensures)
    (subst (λ (word : ℕ). Grows (ReadingGives pools many entry.0 word) before after) value c.in_ok-gather_reading.ensures))

pub returns : goal.returns
returns c =
    let pools = pools_of c.args.source.now in
    let Gives = λ (one : Reading Met × ℤ) (d : ℕ). ReadingGives pools c.args.test.now.many one.0 (cast_unsigned w32 one.1) d in
    let list = c.args.readings.now.items in
    let many : length list ≡ c.loop-index.index = search rules in
    grown_same (UpTo (GivesAt Gives list) c.loop-index.index) _ c.args.characters.now.items c.loop-index.characters.items
    (all_given Gives list c.loop-index.index many) c.loop-index.invariant
