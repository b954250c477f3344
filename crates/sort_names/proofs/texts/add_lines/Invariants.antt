use Rattle.std.proofs.Common.{◌≡◌, ◌++◌, length}
use Rattle.sort_names.specs.Texts.{listed}
use Rattle.sort_names.proofs.texts.add_lines.Given as goal

abbrev pub invariant-lines : goal.invariant-lines
invariant-lines l = record {
  rule : l.list.rule ≡ l.fn.list.rule;
  lines : l.list.lines ++ listed l.shape l.rest ≡ l.fn.list.lines ++ listed l.shape l.text;
}

abbrev pub decreases-lines : goal.decreases-lines
decreases-lines l = length l.rest
