-- the keys of texts by a rule
use Rattle.std.specs.Prelude.{ℕ, List}
use Rattle.icu_normalizer_core.specs.Decoding.{utf8_chars}
use Rattle.icu_collator.specs.KeyBytes.{key_of_text}
use Rattle.collate_rules.specs.Meaning.{collation_of}
use Rattle.collate_sort.specs.Orders.{LineRule}

-- the key of a text by a rule
abbrev pub key_by_rule : LineRule → List ℕ → List ℕ
key_by_rule rule text = key_of_text (collation_of rule.records.lines) rule.options (utf8_chars text)
