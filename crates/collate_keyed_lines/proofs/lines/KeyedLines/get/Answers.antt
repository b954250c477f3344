use Rattle.collate_keyed_lines.specs.KeyedLines.{KeyedLine}
use Rattle.collate_keyed_lines.proofs.KeptLemmas.{found_at}
use Rattle.collate_keyed_lines.proofs.lines.KeyedLines.get.Goals as goal

pub returns : goal.returns
returns c =
    found_at c.self.inside c.self.invariant c.args.self.now c.self.view_is c.as_slice-2.result.now c.as_slice-3.result.now
    c.as_slice-2.ensures.value c.as_slice-3.ensures.value (λ (line : KeyedLine). line.line) c.as_slice.result.now c.as_slice.ensures.value
    c.args.index c.in_ok-slot.slot c.line_in.result.now c.line_in.ensures c.in_ok-slot.ensures
