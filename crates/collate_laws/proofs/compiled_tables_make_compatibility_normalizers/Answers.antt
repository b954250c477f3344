use Rattle.collate_laws.proofs.MadeLemmas.{compatibility_made}
use Rattle.collate_laws.proofs.compiled_tables_make_compatibility_normalizers.Goals as goal

pub returns : goal.returns
returns c = λ records provided result accepted is aside. compatibility_made records provided accepted is result aside
