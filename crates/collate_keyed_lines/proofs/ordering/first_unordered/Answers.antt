use Rattle.std.proofs.Common.{◌≡◌, ◌∙◌, ◌-◌, ap, arith, get_or, sym, true}
use Rattle.std.proofs.lemmas.List.{get_or_default}
use Rattle.std.proofs.lemmas.List.Sorted.{all_adjacent_more}
use Rattle.collate_keyed_lines.specs.KeyedLines.{may_follow, turned}
use Rattle.collate_keyed_lines.specs.Slots.{slot_order}
use Rattle.collate_keyed_lines.specs.declared.slots.Slot.{Slot}
use Rattle.collate_keyed_lines.proofs.ordering.first_unordered.Goals as goal

pub loop-index-preserved : goal.loop-index-preserved
loop-index-preserved c =
    let slots = c.args.slots.now in
    let n = c.loop-index.index in
    let order = turned c.args.direction (slot_order c.args.bytes.now c.args.bounds.now) in
    let none : Slot = record { front = 0; index = 0 } in
    let first = λ (d : Slot). get_or_default slots (n - 1) d none (omega arith) in
    let second = λ (d : Slot). get_or_default slots n d none (omega arith) in
    all_adjacent_more slots (λ x y. may_follow c.args.unique (order x y) ≡ true) n (omega arith) c.loop-index.invariant
    (λ d. ap (λ (s : Slot). may_follow c.args.unique (order s (get_or slots n d))) (first d)
    ∙ ap (λ (s : Slot). may_follow c.args.unique (order (get_or slots (n - 1) none) s)) (second d)
    ∙ ap (may_follow c.args.unique) (sym c.compare_in-ordering.ensures)
    ∙ sym c.follows.ensures ∙ c.if-not-follows.false)
