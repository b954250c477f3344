use Rattle.collate_records.proofs.maps.AllMapLemmas.{words_of_maps}
use Rattle.collate_records.proofs.laws.maps.words_of_all_maps_are_of_their_records.Goals as goal

pub returns : goal.returns
returns c = λ records maps words accepted are mean. words_of_maps records maps accepted are words mean
