use Rattle.collate_laws.proofs.FileLawFormLemmas.{composed_bytes_where_equal, composed_text_where_equal, composed_units_where_equal, composed_where_equal, decomposed_bytes_where_equal, decomposed_text_where_equal, decomposed_units_where_equal, decomposed_where_equal}
use Rattle.collate_laws.proofs.forms.equal_forms_by_a_file_are_equal_at_identical.Goals as goal

pub returns : goal.returns
returns c = record {
  decomposed = λ records options preferences collator tables x y accepted is by identical scalars too. decomposed_where_equal records options preferences collator tables accepted is by identical x y scalars too;
  composed = λ records options preferences collator tables x y accepted is by identical scalars too. composed_where_equal records options preferences collator tables accepted is by identical x y scalars too;
  decomposed_text = λ records options preferences collator tables a b accepted is by identical whole too. decomposed_text_where_equal records options preferences collator tables accepted is by identical a b whole too;
  composed_text = λ records options preferences collator tables a b accepted is by identical whole too. composed_text_where_equal records options preferences collator tables accepted is by identical a b whole too;
  decomposed_bytes = λ records options preferences collator tables a b accepted is by identical. decomposed_bytes_where_equal records options preferences collator tables accepted is by identical a b;
  composed_bytes = λ records options preferences collator tables a b accepted is by identical. composed_bytes_where_equal records options preferences collator tables accepted is by identical a b;
  decomposed_units = λ records options preferences collator tables a b accepted is by identical small too. decomposed_units_where_equal records options preferences collator tables accepted is by identical a b small too;
  composed_units = λ records options preferences collator tables a b accepted is by identical small too. composed_units_where_equal records options preferences collator tables accepted is by identical a b small too;
}
