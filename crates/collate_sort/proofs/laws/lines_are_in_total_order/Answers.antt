use Rattle.collate_sort.proofs.LineLemmas.{line_order_total}
use Rattle.collate_sort.proofs.laws.lines_are_in_total_order.Goals as goal

pub returns : goal.returns
returns c = λ rule. line_order_total rule
