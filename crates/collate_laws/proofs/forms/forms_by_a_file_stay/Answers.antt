use Rattle.collate_laws.proofs.FileLawFormLemmas.{bytes_stay, characters_stay, texts_stay, units_stay}
use Rattle.collate_laws.proofs.forms.forms_by_a_file_stay.Goals as goal

pub returns : goal.returns
returns c = record {
  characters = λ records tables x accepted by scalars. characters_stay records tables accepted by x scalars;
  texts = λ records tables text accepted by whole. texts_stay records tables accepted by text whole;
  bytes = λ records tables bytes accepted by. bytes_stay records tables accepted by bytes;
  units = λ records tables units accepted by small. units_stay records tables accepted by units small;
}
