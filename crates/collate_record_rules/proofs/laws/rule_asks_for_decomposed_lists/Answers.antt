use Rattle.collate_record_rules.proofs.records.UnlikeDecomposedLemmas.{told_by_decomposed}
use Rattle.collate_record_rules.proofs.laws.rule_asks_for_decomposed_lists.Goals as goal

pub returns : goal.returns
returns c = λ lines list counts steady scalars. told_by_decomposed lines list counts steady scalars
