use Rattle.collate_records.proofs.maps.AllMapLemmas.{all_steps_same}
use Rattle.collate_records.proofs.laws.maps.accepted_records_mean_all_their_maps.Goals as goal

pub returns : goal.returns
returns c = λ records maps accepted are c. all_steps_same records maps accepted are c
