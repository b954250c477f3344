use Rattle.collate_laws.proofs.FileLemmas.{equivalent_good, identical_equivalent, identical_keys}
use Rattle.collate_laws.proofs.files.equal_by_a_file_is_equivalence.Goals as goal

pub returns : goal.returns
returns c = record {
  equivalent = λ limits file options preferences x y accepted scalars too equivalent. equivalent_good file options preferences limits accepted x y scalars too equivalent;
  identical = λ limits file options preferences x y accepted identical scalars too. identical_equivalent file options preferences limits accepted identical x y scalars too;
  keys = λ limits file options preferences x y accepted plain identical scalars too. identical_keys file options preferences limits accepted plain identical x y scalars too;
}
