use Rattle.collate_records.proofs.maps.AcceptedAllMapsLemmas.{accepted_maps}
use Rattle.collate_records.proofs.laws.accepted_records_keep_the_rules_of_maps.Goals as goal

pub returns : goal.returns
returns c = accepted_maps
