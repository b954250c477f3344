use Rattle.std.proofs.Common.{ap, ◌∙◌, rules, sym}
use Rattle.std.proofs.lemmas.Result.{on_ok_weaker}
use Rattle.collate_lists.specs.Names.{in_order}
use Rattle.collate_keyed_lines.specs.KeyedLines.{turned}
use Rattle.collate_keyed_lines.specs.Slots.{slot_order}
use Rattle.collate_keyed_lines.specs.declared.direction.Direction.{Direction}
use Rattle.collate_keyed_lines.specs.declared.direction.Direction.TheVariants.{Ascending, Descending}
use Rattle.collate_keyed_lines.proofs.OrderedLemmas.{in_order_if_sorted_by}
use Rattle.collate_keyed_lines.proofs.SlotLemmas.{turned_slots_total}
use Rattle.collate_keyed_lines.proofs.ordering.sort_slots.Goals as goal

pub returns-in-Ascending-clause-sorted : goal.returns-in-Ascending-clause-sorted
returns-in-Ascending-clause-sorted c =
    let order = slot_order c.args.bytes.now c.args.bounds.now in
    on_ok_weaker c.sort_by.result (λ is. is ∙ ap (λ (d : Direction). in_order (turned d order) c.args.slots.now.items) (sym c.in-Ascending.is))
    (in_order_if_sorted_by (turned Ascending order) (turned_slots_total c.args.bytes.now c.args.bounds.now Ascending) _ _ (λ a r g h. search rules)
    c.sort_by.result c.args.slots.now.items c.sort_by.new.self.items c.sort_by.ensures.sorted c.sort_by.ensures.stable)

pub returns-in-Descending-clause-sorted : goal.returns-in-Descending-clause-sorted
returns-in-Descending-clause-sorted c =
    let order = slot_order c.args.bytes.now c.args.bounds.now in
    on_ok_weaker c.sort_by-in-Descending.result (λ is. is ∙ ap (λ (d : Direction). in_order (turned d order) c.args.slots.now.items) (sym c.in-Descending.is))
    (in_order_if_sorted_by (turned Descending order) (turned_slots_total c.args.bytes.now c.args.bounds.now Descending) _ _ (λ a r g h. search rules)
    c.sort_by-in-Descending.result c.args.slots.now.items c.sort_by-in-Descending.new.self.items c.sort_by-in-Descending.ensures.sorted c.sort_by-in-Descending.ensures.stable)
