use Rattle.collate_records.proofs.comparing.LocalityLemmas.{read_alike}
use Rattle.collate_records.proofs.laws.changes.unchanged_texts_are_read_alike.Goals as goal

pub returns : goal.returns
returns g old new text settings same = read_alike old new settings text same
