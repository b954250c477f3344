use Rattle.collate_laws.proofs.LawFormLemmas.{same_canonical_alike, same_compatibility_alike}
use Rattle.collate_laws.proofs.alike.compilations_of_one_file_normalize_alike.Goals as goal

pub returns : goal.returns
returns c = record {
  canonical = λ records a b accepted first second. same_canonical_alike records a b accepted first second;
  compatibility = λ records a b first second. same_compatibility_alike records a b first second;
}
