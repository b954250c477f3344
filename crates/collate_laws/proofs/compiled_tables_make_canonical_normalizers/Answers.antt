use Rattle.collate_laws.proofs.MadeLemmas.{canonical_made}
use Rattle.collate_laws.proofs.compiled_tables_make_canonical_normalizers.Goals as goal

pub returns : goal.returns
returns c = λ records provided result accepted is aside. canonical_made records provided accepted is result aside
