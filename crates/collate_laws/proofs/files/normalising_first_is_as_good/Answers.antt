use Rattle.collate_laws.proofs.FileLemmas.{composed_good, decomposed_good}
use Rattle.collate_laws.proofs.files.normalising_first_is_as_good.Goals as goal

pub returns : goal.returns
returns c = record {
  decomposed = λ limits file options preferences text accepted scalars. decomposed_good file options preferences limits accepted text scalars;
  composed = λ limits file options preferences text accepted scalars. composed_good file options preferences limits accepted text scalars;
}
