use Rattle.collate_keyed_lines.proofs.KeptLemmas.{sorted_lines, sorted_slots}
use Rattle.collate_keyed_lines.proofs.lines.KeyedLines.sort.Goals as goal

pub invariant_of-self : goal.invariant_of-self
invariant_of-self c = record {
  bounds = c.self.invariant.bounds;
  slots =
      sorted_slots c.self.inside c.self.invariant c.args.self.now c.self.view_is c.as_slice-bytes.result.now c.as_slice-bounds.result.now
      c.as_slice-bytes.ensures.value c.as_slice-bounds.ensures.value c.args.direction c.sort_slots.result c.sort_slots.new.slots.items
      c.sort_slots.ensures.sorted c.sort_slots.ensures.unchanged;
}

pub returns-clause-sorted : goal.returns-clause-sorted
returns-clause-sorted c =
    sorted_lines c.self.inside c.self.invariant c.args.self.now c.self.view_is c.as_slice-bytes.result.now c.as_slice-bounds.result.now
    c.as_slice-bytes.ensures.value c.as_slice-bounds.ensures.value c.args.direction c.sort_slots.result c.sort_slots.new.slots.items
    c.sort_slots.ensures.sorted
