use Rattle.collate_keyed_lines.proofs.KeptLemmas.{kept_lines, kept_slots}
use Rattle.collate_keyed_lines.proofs.lines.KeyedLines.keep_first.Goals as goal

pub invariant_of-self : goal.invariant_of-self
invariant_of-self c = record {
  bounds = c.self.invariant.bounds;
  slots =
      kept_slots c.self.inside c.self.invariant c.args.self.now c.self.view_is c.as_slice-bytes.result.now c.as_slice-bounds.result.now
      c.as_slice-bytes.ensures.value c.as_slice-bounds.ensures.value c.keep_first.new.slots.items c.keep_first.ensures;
}

pub returns : goal.returns
returns c =
    kept_lines c.self.inside c.self.invariant c.args.self.now c.self.view_is c.as_slice-bytes.result.now c.as_slice-bounds.result.now
    c.as_slice-bytes.ensures.value c.as_slice-bounds.ensures.value c.keep_first.new.slots.items c.keep_first.ensures
