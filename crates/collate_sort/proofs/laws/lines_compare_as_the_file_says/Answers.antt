use Rattle.collate_sort.proofs.LineLemmas.{as_the_file_says}
use Rattle.collate_sort.proofs.laws.lines_compare_as_the_file_says.Goals as goal

pub returns : goal.returns
returns c = λ limits file options preferences direction a b plain. as_the_file_says limits file options preferences direction a b plain
