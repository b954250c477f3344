use Rattle.collate_laws.proofs.FileLemmas.{file_order_total}
use Rattle.collate_laws.proofs.files.file_order_is_a_total_preorder.Goals as goal

pub returns : goal.returns
returns c = λ file options preferences. file_order_total file options preferences
