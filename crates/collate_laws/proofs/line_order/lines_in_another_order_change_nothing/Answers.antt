use Rattle.collate_laws.proofs.FileLawLineOrderLemmas.{moved_settings, moved_unchanged}
use Rattle.collate_laws.proofs.line_order.lines_in_another_order_change_nothing.Goals as goal

pub returns : goal.returns
returns g = record {
  characters = λ a b c accepted moved. moved_unchanged a b accepted moved c;
  settings = λ a b accepted moved. moved_settings a b accepted moved;
}
