use Rattle.collate_record_rules.proofs.records.DecomposedTextLemmas.{own_decomposed}
use Rattle.collate_record_rules.proofs.decomposed.kept_lists_are_decomposed.Goals as goal

pub returns : goal.returns
returns c = own_decomposed
