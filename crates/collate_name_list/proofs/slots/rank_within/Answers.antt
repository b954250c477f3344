use Rattle.std.proofs.Common.{◌≡◌, ℕ, ◌+◌, ◌-◌, ◌/◌, Some, slice_get, get_or, arith, sym, ap, ◌∙◌}
use Rattle.std.proofs.lemmas.Option.{get_or_from_slice_get}
use Rattle.collate_lists.specs.Search.{stands_before}
use Rattle.collate_lists.proofs.NameSearchLemmas.{narrowed_all, narrowed_few, narrowed_low, narrowed_high}
use Rattle.collate_lists.specs.Fronts.{IsFrontOf}
use Rattle.collate_name_list.specs.Slots.{IsFull, compared, entry_at, slots_of}
use Rattle.collate_name_list.proofs.FrontedLemmas.{all_fronted, all_read, length_fronted, slot_read, shown_at}
use Rattle.collate_name_list.proofs.SpanLemmas.{narrowed_span}
use Rattle.collate_name_list.proofs.slots.rank_within.Goals as goal

pub halves-init : goal.halves-init
halves-init c = record {
  narrowed = narrowed_span (compared c.args.slots.now c.args.sought.now) (slots_of c.args.ranked.now) c.args.past_equal c.args.count.now c.args.span.low c.args.span.high c.requires.span;
  from = omega arith;
  grown = omega arith;
  shown = c.around-window.ensures.shown;
}

pub window_around-window-requires-clause-rank : goal.window_around-window-requires-clause-rank
window_around-window-requires-clause-rank c = omega (arith, c.halves.invariant.narrowed.bound, length_fronted c.args.ranked.now)

pub compare-requires-clause-full : goal.compare-requires-clause-full
compare-requires-clause-full c =
    let ps = c.args.ranked.now in
    let middle : ℕ = c.halves.low + (c.halves.high - c.halves.low) / 2 in
    let there : slice_get ps middle ≡ Some c.slot_in-placed.result =
    shown_at ps c.window_around-window.result.slots.now c.window_around-window.result.start middle c.slot_in-placed.result c.window_around-window.ensures.shown c.window_around-window.ensures.from c.slot_in-placed.ensures in
    all_read (λ p. IsFull c.args.slots.now p.slot) ps middle c.slot_in-placed.result (all_fronted (IsFull c.args.slots.now) ps c.requires.full) there

pub compare-requires-clause-stored : goal.compare-requires-clause-stored
compare-requires-clause-stored c =
    let ps = c.args.ranked.now in
    let middle : ℕ = c.halves.low + (c.halves.high - c.halves.low) / 2 in
    let there : slice_get ps middle ≡ Some c.slot_in-placed.result =
    shown_at ps c.window_around-window.result.slots.now c.window_around-window.result.start middle c.slot_in-placed.result c.window_around-window.ensures.shown c.window_around-window.ensures.from c.slot_in-placed.ensures in
    all_read (λ p. IsFrontOf p.front (entry_at c.args.slots.now p.slot).key) ps middle c.slot_in-placed.result c.requires.fronts there

pub halves-preserved-then-stands_before : goal.halves-preserved-then-stands_before
halves-preserved-then-stands_before c =
    let ps = c.args.ranked.now in
    let middle : ℕ = c.halves.low + (c.halves.high - c.halves.low) / 2 in
    let there : slice_get ps middle ≡ Some c.slot_in-placed.result =
    shown_at ps c.window_around-window.result.slots.now c.window_around-window.result.start middle c.slot_in-placed.result c.window_around-window.ensures.shown c.window_around-window.ensures.from c.slot_in-placed.ensures in
    let place : get_or (slots_of ps) middle 0 ≡ c.slot_in-placed.result.slot =
    get_or_from_slice_get (slots_of ps) middle c.slot_in-placed.result.slot 0 (slot_read ps middle c.slot_in-placed.result there) in
    record {
      narrowed =
          narrowed_low (compared c.args.slots.now c.args.sought.now) c.args.past_equal (slots_of ps) c.args.count.now
          c.halves.low c.halves.high c.halves.count c.compare.new.count c.halves.invariant.narrowed c.halves-test.true c.compare.ensures.few c.requires.parted
          0 (ap (stands_before c.args.past_equal) (ap (compared c.args.slots.now c.args.sought.now) place ∙ sym c.compare.ensures.order) ∙ sym c.stands_before.ensures ∙ c.if-stands_before.true);
      from = omega (arith, c.halves.invariant.from);
      grown = omega (arith, c.halves.invariant.grown, c.compare.ensures.grown);
      shown = c.window_around-window.ensures.shown;
    }

pub halves-preserved : goal.halves-preserved
halves-preserved c =
    let ps = c.args.ranked.now in
    let middle : ℕ = c.halves.low + (c.halves.high - c.halves.low) / 2 in
    let there : slice_get ps middle ≡ Some c.slot_in-placed.result =
    shown_at ps c.window_around-window.result.slots.now c.window_around-window.result.start middle c.slot_in-placed.result c.window_around-window.ensures.shown c.window_around-window.ensures.from c.slot_in-placed.ensures in
    let place : get_or (slots_of ps) middle 0 ≡ c.slot_in-placed.result.slot =
    get_or_from_slice_get (slots_of ps) middle c.slot_in-placed.result.slot 0 (slot_read ps middle c.slot_in-placed.result there) in
    record {
      narrowed =
          narrowed_high (compared c.args.slots.now c.args.sought.now) c.args.past_equal (slots_of ps) c.args.count.now
          c.halves.low c.halves.high c.halves.count c.compare.new.count c.halves.invariant.narrowed c.halves-test.true c.compare.ensures.few c.requires.parted
          0 (ap (stands_before c.args.past_equal) (ap (compared c.args.slots.now c.args.sought.now) place ∙ sym c.compare.ensures.order) ∙ sym c.stands_before.ensures ∙ c.if-stands_before.false);
      from = omega (arith, c.halves.invariant.from);
      grown = omega (arith, c.halves.invariant.grown, c.compare.ensures.grown);
      shown = c.window_around-window.ensures.shown;
    }

pub returns-clause-bound : goal.returns-clause-bound
returns-clause-bound c = omega (arith, c.halves.invariant.narrowed.bound, c.halves.invariant.narrowed.ordered)

pub returns-clause-few : goal.returns-clause-few
returns-clause-few c digits h =
    narrowed_few (compared c.args.slots.now c.args.sought.now) c.args.past_equal (slots_of c.args.ranked.now) c.args.count.now
    c.halves.low c.halves.high c.halves.count c.halves.invariant.narrowed digits h

pub returns-clause-rank : goal.returns-clause-rank
returns-clause-rank c =
    narrowed_all (compared c.args.slots.now c.args.sought.now) c.args.past_equal (slots_of c.args.ranked.now) c.args.count.now
    c.halves.low c.halves.high c.halves.count c.halves.invariant.narrowed c.halves-test.false
