use Rattle.std.proofs.Common.{rules}
use Rattle.std.proofs.lemmas.Fn.{dedup_same}
use Rattle.collate_keyed_lines.specs.KeyedLines.{is_same}
use Rattle.collate_keyed_lines.specs.Slots.{slot_order}
use Rattle.collate_keyed_lines.proofs.ordering.keep_first.Goals as goal

pub returns : goal.returns
returns c =
    dedup_same _ (is_same (slot_order c.args.bytes.now c.args.bounds.now)) _ (λ x y b f' x' y' h. search rules)
    c.args.slots.now.items c.dedup_by.new.self.items c.dedup_by.ensures.filtered
