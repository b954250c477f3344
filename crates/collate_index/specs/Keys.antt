-- the key of a name: the sort key of the characters that its bytes spell
use Rattle.std.specs.Prelude.{◌≡◌, ℕ, List}
use Rattle.icu_normalizer_core.specs.Decoding.{utf8_chars}
use Rattle.icu_collator.specs.KeyBytes.{key_of_text}
use Rattle.collate_rules.specs.Meaning.{collation_of}
use Rattle.collate_records.specs.Files.{FileRecords}
use Rattle.collate_name_list.specs.StoredNames.{StoredName, names_of}
use Rattle.collate_index.specs.Meaning.{Meaning}
use Rattle.collate_index.specs.Catalogue.{Catalogue}
use Rattle.collate_index.specs.declared.asked.Asked.{Asked}

abbrev pub key_of_name : Meaning → List ℕ → List ℕ
key_of_name m name = key_of_text (collation_of m.records) m.options (utf8_chars name)

abbrev pub IsKeyOf : Meaning → List ℕ → List ℕ → Type 0
IsKeyOf m name key = key ≡ key_of_name m name

-- a name is stored with its key
abbrev pub IsKeyed : Meaning → StoredName → Type 0
IsKeyed m stored = IsKeyOf m stored.name stored.key

-- the catalogue of stored names
abbrev pub catalogue : FileRecords → Asked → List StoredName → Catalogue
catalogue records asked names =
    record { limits = records.limits; records = records.lines; asked = asked; arrivals = names_of names }
