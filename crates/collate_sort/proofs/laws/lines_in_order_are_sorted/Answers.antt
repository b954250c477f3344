use Rattle.collate_sort.proofs.LineLemmas.{same_lines, sorted_lines, stable_lines}
use Rattle.collate_sort.proofs.laws.lines_in_order_are_sorted.Goals as goal

pub returns-clause-same : goal.returns-clause-same
returns-clause-same c = λ rule lines. same_lines rule lines

pub returns-clause-sorted : goal.returns-clause-sorted
returns-clause-sorted c = λ rule lines. sorted_lines rule lines

pub returns-clause-stable : goal.returns-clause-stable
returns-clause-stable c = λ rule lines. stable_lines rule lines
