use Rattle.collate_lines.specs.Lines.{records_of}
use Rattle.collate_lines.specs.declared.rule.Rule.TheVariants.{C5, V6, V14}
use Rattle.collate_records.proofs.comparing.LineOrderLemmas.{same_composing, same_settings, same_weights}
use Rattle.collate_records.proofs.reading.ReadingAcceptedLemmas.{kept_within}
use Rattle.collate_records.proofs.reordering.AcceptedMovedLemmas.{records_moved}
use Rattle.collate_records.proofs.laws.files.files_in_another_order_mean_the_same.Goals as goal

pub returns : goal.returns
returns c = record {
  canonical = λ limits a b accepted lines. same_composing (records_of a) (records_of b) (records_moved a b lines) (kept_within limits a accepted V14) (kept_within limits a accepted C5);
  weights = λ limits a b accepted lines. same_weights (records_of a) (records_of b) (records_moved a b lines) (kept_within limits a accepted V14) (kept_within limits a accepted V6);
  settings = λ limits a b accepted lines. same_settings (records_of a) (records_of b) (records_moved a b lines) (kept_within limits a accepted V14);
}
