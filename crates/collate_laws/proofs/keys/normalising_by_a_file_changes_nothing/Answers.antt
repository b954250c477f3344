use Rattle.collate_laws.proofs.LawKeyLemmas.{composed_bytes_nothing, composed_nothing, composed_text_nothing, composed_units_nothing, decomposed_bytes_nothing, decomposed_nothing, decomposed_text_nothing, decomposed_units_nothing}
use Rattle.collate_laws.proofs.keys.normalising_by_a_file_changes_nothing.Goals as goal

pub returns : goal.returns
returns c = record {
  decomposed = λ records options preferences collator tables text accepted is by scalars. decomposed_nothing records options preferences collator accepted is tables by text scalars;
  composed = λ records options preferences collator tables text accepted is by scalars. composed_nothing records options preferences collator accepted is tables by text scalars;
  decomposed_text = λ records options preferences collator tables text accepted is by whole. decomposed_text_nothing records options preferences collator accepted is tables by text whole;
  composed_text = λ records options preferences collator tables text accepted is by whole. composed_text_nothing records options preferences collator accepted is tables by text whole;
  decomposed_bytes = λ records options preferences collator tables bytes accepted is by. decomposed_bytes_nothing records options preferences collator accepted is tables by bytes;
  composed_bytes = λ records options preferences collator tables bytes accepted is by. composed_bytes_nothing records options preferences collator accepted is tables by bytes;
  decomposed_units = λ records options preferences collator tables units accepted is by small. decomposed_units_nothing records options preferences collator accepted is tables by units small;
  composed_units = λ records options preferences collator tables units accepted is by small. composed_units_nothing records options preferences collator accepted is tables by units small;
}
