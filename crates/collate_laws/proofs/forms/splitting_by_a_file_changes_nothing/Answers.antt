use Rattle.std.proofs.Common.{◌++◌}
use Rattle.icu_normalizer_core.specs.Decoding.{utf16_chars, utf8_chars}
use Rattle.icu_normalizer.specs.NormalizerTables.{tables_meaning}
use Rattle.icu_normalizer.specs.TextForms.{composed_text, decomposed_text}
use Rattle.icu_collator.specs.NormalForms.{composed_bytes, composed_units, decomposed_bytes, decomposed_units}
use Rattle.collate_laws.proofs.LawKeyLemmas.{composed_bytes_nothing, composed_text_nothing, composed_units_nothing, decomposed_bytes_nothing, decomposed_text_nothing, decomposed_units_nothing}
use Rattle.collate_laws.proofs.FileLawSplitLemmas.{same_changes_nothing}
use Rattle.collate_laws.proofs.forms.splitting_by_a_file_changes_nothing.Goals as goal

pub returns : goal.returns
returns c = record {
  decomposed_text = λ records options preferences collator tables text prefix rest accepted is by whole split.
      same_changes_nothing collator utf8_chars (decomposed_text (tables_meaning tables)) text (prefix ++ decomposed_text (tables_meaning tables) rest) split
      (decomposed_text_nothing records options preferences collator accepted is tables by text whole);
  composed_text = λ records options preferences collator tables text prefix rest accepted is by whole split.
      same_changes_nothing collator utf8_chars (composed_text (tables_meaning tables)) text (prefix ++ composed_text (tables_meaning tables) rest) split
      (composed_text_nothing records options preferences collator accepted is tables by text whole);
  decomposed_bytes = λ records options preferences collator tables bytes prefix rest accepted is by split.
      same_changes_nothing collator utf8_chars (decomposed_bytes (tables_meaning tables)) bytes (prefix ++ decomposed_bytes (tables_meaning tables) rest) split
      (decomposed_bytes_nothing records options preferences collator accepted is tables by bytes);
  composed_bytes = λ records options preferences collator tables bytes prefix rest accepted is by split.
      same_changes_nothing collator utf8_chars (composed_bytes (tables_meaning tables)) bytes (prefix ++ composed_bytes (tables_meaning tables) rest) split
      (composed_bytes_nothing records options preferences collator accepted is tables by bytes);
  decomposed_units = λ records options preferences collator tables units prefix rest accepted is by small split.
      same_changes_nothing collator utf16_chars (decomposed_units (tables_meaning tables)) units (prefix ++ decomposed_units (tables_meaning tables) rest) split
      (decomposed_units_nothing records options preferences collator accepted is tables by units small);
  composed_units = λ records options preferences collator tables units prefix rest accepted is by small split.
      same_changes_nothing collator utf16_chars (composed_units (tables_meaning tables)) units (prefix ++ composed_units (tables_meaning tables) rest) split
      (composed_units_nothing records options preferences collator accepted is tables by units small);
}
