use Rattle.collate_laws.proofs.MadeLemmas.{collator_made}
use Rattle.collate_laws.proofs.compiled_tables_make_collators.Goals as goal

pub returns : goal.returns
returns c = λ records provided options preferences result accepted is aside. collator_made records provided options preferences accepted is result aside
