use Rattle.collate_keyed_lines.proofs.KeptLemmas.{unordered_first, unordered_none}
use Rattle.collate_keyed_lines.proofs.lines.KeyedLines.first_unordered.Goals as goal

pub returns-clause-none : goal.returns-clause-none
returns-clause-none c =
    unordered_none c.self.inside c.self.invariant c.args.self.now c.self.view_is c.as_slice-bytes.result.now c.as_slice-bounds.result.now
    c.as_slice-bytes.ensures.value c.as_slice-bounds.ensures.value c.args.direction c.args.unique c.as_slice.result.now c.as_slice.ensures.value
    c.first_unordered.result c.first_unordered.ensures.none

pub returns-clause-first : goal.returns-clause-first
returns-clause-first c =
    unordered_first c.self.inside c.self.invariant c.args.self.now c.self.view_is c.as_slice-bytes.result.now c.as_slice-bounds.result.now
    c.as_slice-bytes.ensures.value c.as_slice-bounds.ensures.value c.args.direction c.args.unique c.as_slice.result.now c.as_slice.ensures.value
    c.first_unordered.result c.first_unordered.ensures.first
