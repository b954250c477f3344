use Rattle.collate_laws.proofs.UnchangedLemmas.{resolved_alike}
use Rattle.collate_laws.proofs.unchanged.equal_settings_resolve_alike.Goals as goal

pub returns : goal.returns
returns c = λ old new options preferences a b settings first second. resolved_alike old new options preferences a b settings first second
