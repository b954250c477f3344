use Rattle.std.proofs.Common.{◌≡◌, ℕ, ◌+◌, ◌-◌, ◌/◌, ◌<◌, false, true, length, Less, Equal, Greater, Some, slice_get, get_or, arith, sym, ap, ◌∙◌}
use Rattle.std.proofs.lemmas.Option.{get_or_from_slice_get}
use Rattle.collate_lists.specs.Search.{stands_before, IsRankOf}
use Rattle.collate_lists.proofs.NameSearchLemmas.{high_falls, narrowed_all, narrowed_few, narrowed_low, narrowed_high}
use Rattle.collate_lists.specs.Fronts.{IsFrontOf}
use Rattle.collate_name_list.specs.Slots.{IsFull, compared, entry_at, slots_of}
use Rattle.collate_name_list.proofs.FrontedLemmas.{all_fronted, all_read, length_fronted, slot_read, shown_at}
use Rattle.collate_name_list.proofs.SpanLemmas.{narrowed_span, span_past, span_whole}
use Rattle.collate_name_list.proofs.slots.span_of.Goals as goal

pub halves-init : goal.halves-init
halves-init c =
    let cmp = compared c.args.slots.now c.args.sought.now in
    let xs = slots_of c.args.ranked.now in
    let span = c.whole-span.result in
    let all : span.high ≡ length xs = c.whole-span.ensures.high ∙ sym (length_fronted c.args.ranked.now) in
    record {
      narrowed = narrowed_span cmp xs false c.args.count.now span.low span.high (span_whole cmp xs false span.low span.high c.whole-span.ensures.low all);
      above = (span_whole cmp xs true span.low span.high c.whole-span.ensures.low all).back;
      upto = omega arith;
      bound = omega (arith, all);
      begun = λ h. absurd (omega (arith, h, all, c.whole-span.ensures.low));
      grown = omega arith;
      shown = c.around-window.ensures.shown;
    }

pub window_around-window-requires-clause-rank : goal.window_around-window-requires-clause-rank
window_around-window-requires-clause-rank c = omega (arith, c.halves.invariant.narrowed.bound, length_fronted c.args.ranked.now, c.halves-test.true)

pub compare-requires-clause-full : goal.compare-requires-clause-full
compare-requires-clause-full c =
    let ps = c.args.ranked.now in
    let middle : ℕ = c.halves.span.low + (c.halves.high - c.halves.span.low) / 2 in
    let there : slice_get ps middle ≡ Some c.slot_in-placed.result =
    shown_at ps c.window_around-window.result.slots.now c.window_around-window.result.start middle c.slot_in-placed.result c.window_around-window.ensures.shown c.window_around-window.ensures.from c.slot_in-placed.ensures in
    all_read (λ p. IsFull c.args.slots.now p.slot) ps middle c.slot_in-placed.result (all_fronted (IsFull c.args.slots.now) ps c.requires.full) there

pub compare-requires-clause-stored : goal.compare-requires-clause-stored
compare-requires-clause-stored c =
    let ps = c.args.ranked.now in
    let middle : ℕ = c.halves.span.low + (c.halves.high - c.halves.span.low) / 2 in
    let there : slice_get ps middle ≡ Some c.slot_in-placed.result =
    shown_at ps c.window_around-window.result.slots.now c.window_around-window.result.start middle c.slot_in-placed.result c.window_around-window.ensures.shown c.window_around-window.ensures.from c.slot_in-placed.ensures in
    all_read (λ p. IsFrontOf p.front (entry_at c.args.slots.now p.slot).key) ps middle c.slot_in-placed.result c.requires.fronts there

pub halves-preserved-in-Less : goal.halves-preserved-in-Less
halves-preserved-in-Less c =
    let ps = c.args.ranked.now in
    let middle : ℕ = c.halves.span.low + (c.halves.high - c.halves.span.low) / 2 in
    let there : slice_get ps middle ≡ Some c.slot_in-placed.result =
    shown_at ps c.window_around-window.result.slots.now c.window_around-window.result.start middle c.slot_in-placed.result c.window_around-window.ensures.shown c.window_around-window.ensures.from c.slot_in-placed.ensures in
    let place : get_or (slots_of ps) middle 0 ≡ c.slot_in-placed.result.slot =
    get_or_from_slice_get (slots_of ps) middle c.slot_in-placed.result.slot 0 (slot_read ps middle c.slot_in-placed.result there) in
    let is : compared c.args.slots.now c.args.sought.now (get_or (slots_of ps) middle 0) ≡ Less =
    ap (compared c.args.slots.now c.args.sought.now) place ∙ sym c.compare.ensures.order ∙ c.in-Less.is in
    record {
      narrowed =
          narrowed_low (compared c.args.slots.now c.args.sought.now) false (slots_of ps) c.args.count.now
          c.halves.span.low c.halves.high c.halves.count c.compare.new.count c.halves.invariant.narrowed c.halves-test.true c.compare.ensures.few c.requires.parted
          0 (ap (stands_before false) is);
      above = c.halves.invariant.above;
      upto = omega (arith, c.halves.invariant.upto);
      bound = omega (arith, c.halves.invariant.bound, c.halves.invariant.narrowed.bound);
      begun = λ h. c.compare.ensures.some;
      grown = omega (arith, c.halves.invariant.grown, c.compare.ensures.grown);
      shown = c.window_around-window.ensures.shown;
    }

pub halves-preserved-in-Equal : goal.halves-preserved-in-Equal
halves-preserved-in-Equal c =
    let ps = c.args.ranked.now in
    let middle : ℕ = c.halves.span.low + (c.halves.high - c.halves.span.low) / 2 in
    let there : slice_get ps middle ≡ Some c.slot_in-placed.result =
    shown_at ps c.window_around-window.result.slots.now c.window_around-window.result.start middle c.slot_in-placed.result c.window_around-window.ensures.shown c.window_around-window.ensures.from c.slot_in-placed.ensures in
    let place : get_or (slots_of ps) middle 0 ≡ c.slot_in-placed.result.slot =
    get_or_from_slice_get (slots_of ps) middle c.slot_in-placed.result.slot 0 (slot_read ps middle c.slot_in-placed.result there) in
    let is : compared c.args.slots.now c.args.sought.now (get_or (slots_of ps) middle 0) ≡ Equal =
    ap (compared c.args.slots.now c.args.sought.now) place ∙ sym c.compare.ensures.order ∙ c.in-Equal.is in
    record {
      narrowed =
          narrowed_high (compared c.args.slots.now c.args.sought.now) false (slots_of ps) c.args.count.now
          c.halves.span.low c.halves.high c.halves.count c.compare.new.count c.halves.invariant.narrowed c.halves-test.true c.compare.ensures.few c.requires.parted
          0 (ap (stands_before false) is);
      above = c.halves.invariant.above;
      upto = omega (arith, c.halves.invariant.upto);
      bound = omega (arith, c.halves.invariant.bound, c.halves.invariant.narrowed.bound);
      begun = λ h. c.compare.ensures.some;
      grown = omega (arith, c.halves.invariant.grown, c.compare.ensures.grown);
      shown = c.window_around-window.ensures.shown;
    }

pub halves-preserved : goal.halves-preserved
halves-preserved c =
    let ps = c.args.ranked.now in
    let middle : ℕ = c.halves.span.low + (c.halves.high - c.halves.span.low) / 2 in
    let there : slice_get ps middle ≡ Some c.slot_in-placed.result =
    shown_at ps c.window_around-window.result.slots.now c.window_around-window.result.start middle c.slot_in-placed.result c.window_around-window.ensures.shown c.window_around-window.ensures.from c.slot_in-placed.ensures in
    let place : get_or (slots_of ps) middle 0 ≡ c.slot_in-placed.result.slot =
    get_or_from_slice_get (slots_of ps) middle c.slot_in-placed.result.slot 0 (slot_read ps middle c.slot_in-placed.result there) in
    let is : compared c.args.slots.now c.args.sought.now (get_or (slots_of ps) middle 0) ≡ Greater =
    ap (compared c.args.slots.now c.args.sought.now) place ∙ sym c.compare.ensures.order ∙ c.in-Greater.is in
    let within : middle < length (slots_of ps) = omega (arith, c.halves.invariant.narrowed.bound, c.halves-test.true) in
    record {
      narrowed =
          narrowed_high (compared c.args.slots.now c.args.sought.now) false (slots_of ps) c.args.count.now
          c.halves.span.low c.halves.high c.halves.count c.compare.new.count c.halves.invariant.narrowed c.halves-test.true c.compare.ensures.few c.requires.parted
          0 (ap (stands_before false) is);
      above = high_falls (λ slot. stands_before true (compared c.args.slots.now c.args.sought.now slot)) (slots_of ps) c.requires.parted_past middle 0 within (ap (stands_before true) is);
      upto = omega (arith, c.halves.invariant.upto);
      bound = omega (arith, c.halves.invariant.bound, c.halves.invariant.narrowed.bound);
      begun = λ h. c.compare.ensures.some;
      grown = omega (arith, c.halves.invariant.grown, c.compare.ensures.grown);
      shown = c.window_around-window.ensures.shown;
    }

pub returns-clause-rank : goal.returns-clause-rank
returns-clause-rank c =
    narrowed_all (compared c.args.slots.now c.args.sought.now) false (slots_of c.args.ranked.now) c.args.count.now
    c.halves.span.low c.halves.high c.halves.count c.halves.invariant.narrowed c.halves-test.false

pub returns-clause-span : goal.returns-clause-span
returns-clause-span c =
    let cmp = compared c.args.slots.now c.args.sought.now in
    let xs = slots_of c.args.ranked.now in
    let place : IsRankOf cmp false xs c.halves.span.low =
    narrowed_all cmp false xs c.args.count.now c.halves.span.low c.halves.high c.halves.count c.halves.invariant.narrowed c.halves-test.false in
    span_past cmp xs c.halves.span.low c.halves.span.high place (omega (arith, c.halves.invariant.narrowed.ordered, c.halves.invariant.upto)) c.halves.invariant.bound c.halves.invariant.above

pub returns-clause-few : goal.returns-clause-few
returns-clause-few c digits h =
    narrowed_few (compared c.args.slots.now c.args.sought.now) false (slots_of c.args.ranked.now) c.args.count.now
    c.halves.span.low c.halves.high c.halves.count c.halves.invariant.narrowed digits h

pub returns-clause-some : goal.returns-clause-some
returns-clause-some c h = c.halves.invariant.begun (omega (arith, h, c.halves-test.false))
