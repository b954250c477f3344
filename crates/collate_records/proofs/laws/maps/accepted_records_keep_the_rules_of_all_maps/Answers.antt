use Rattle.collate_records.proofs.maps.AllMapLemmas.{keep_all}
use Rattle.collate_records.proofs.laws.maps.accepted_records_keep_the_rules_of_all_maps.Goals as goal

pub returns : goal.returns
returns c = λ records maps limit accepted are few. keep_all records maps accepted are limit few
