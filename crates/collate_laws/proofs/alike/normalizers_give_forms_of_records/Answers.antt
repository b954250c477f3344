use Rattle.collate_laws.proofs.LawFormLemmas.{both_composed_said, both_composed_text_said, both_decomposed_said, both_decomposed_text_said, composed_said, composed_text_said, decomposed_said, decomposed_text_said}
use Rattle.collate_laws.proofs.alike.normalizers_give_forms_of_records.Goals as goal

pub returns : goal.returns
returns c = record {
  decomposed = λ records tables x accepted is scalars. decomposed_said records tables accepted is x scalars;
  composed = λ records tables x accepted is scalars. composed_said records tables accepted is x scalars;
  decomposed_text = λ records tables text accepted is whole. decomposed_text_said records tables accepted is text whole;
  composed_text = λ records tables text accepted is whole. composed_text_said records tables accepted is text whole;
  both_decomposed = λ records tables x accepted is scalars. both_decomposed_said records tables accepted is x scalars;
  both_composed = λ records tables x accepted is scalars. both_composed_said records tables accepted is x scalars;
  both_decomposed_text = λ records tables text accepted is whole. both_decomposed_text_said records tables accepted is text whole;
  both_composed_text = λ records tables text accepted is whole. both_composed_text_said records tables accepted is text whole;
}
