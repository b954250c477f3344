-- what an index is: what decides the order of its names, and the names as they arrived
use Rattle.std.specs.Prelude.{◌≢◌, ℕ, None, List, [], ◌∷◌, ◌++◌, bytes_eq, filter, not}
use Rattle.std.specs.List.{AllPairs}
use Rattle.icu_collator_types.specs.Options.{resolved_options}
use Rattle.icu_collator_types.specs.declared.options.CollatorOptions.{CollatorOptions}
use Rattle.icu_collator_types.specs.declared.options.CollatorPreferences.{CollatorPreferences}
use Rattle.icu_collator_types.specs.declared.options.ResolvedCollatorOptions.{ResolvedCollatorOptions}
use Rattle.collate_lines.specs.declared.limits.Limits.{Limits}
use Rattle.collate_lines.specs.Lines.{records_of}
use Rattle.collate_lines.specs.Record.{Record}
use Rattle.collate_records.specs.Files.{FileRecords}
use Rattle.collate_rules.specs.Meaning.{settings_of}
use Rattle.collate_lists.specs.Names.{TextOrder, in_order}
use Rattle.collate_index.specs.Meaning.{Meaning, meaning_of, order_by}
use Rattle.collate_index.specs.declared.asked.Asked.{Asked}

-- what options and preferences ask of the order of names
abbrev pub asked_of : CollatorOptions → CollatorPreferences → Asked
asked_of options preferences =
    record { options = options; case_first = preferences.case_first; numeric_ordering = preferences.numeric_ordering }

-- the preferences among what is asked, of no locale
abbrev pub preferences_of : Asked → CollatorPreferences
preferences_of asked =
    record {
      locale = record { ref_ptr = (0, 0); now = [] };
      collation_type = None;
      case_first = asked.case_first;
      numeric_ordering = asked.numeric_ordering;
    }

pub record Catalogue : Type 0 where
  -- the limits within which records files are read
  pub limits : Limits
  -- what the lines of the records file say
  pub records : List Record
  -- what the caller asks of the order, whatever the records
  pub asked : Asked
  -- the names, oldest first
  pub arrivals : List (List ℕ)

-- the options that names are compared by: what the caller leaves open the records set
abbrev pub options_in : Catalogue → ResolvedCollatorOptions
options_in s = resolved_options s.asked.options (preferences_of s.asked) (settings_of s.records)

-- what decides how the names of an index compare
abbrev pub meaning_in : Catalogue → Meaning
meaning_in s = meaning_of s.records (options_in s)

-- how the names of an index compare
abbrev pub order_of : Catalogue → TextOrder
order_of s = order_by (meaning_in s)

-- the names of an index as they stand in order
abbrev pub sorted_names : Catalogue → List (List ℕ)
sorted_names s = in_order (order_of s) s.arrivals

-- no name occurs twice
abbrev pub AreDistinct : List (List ℕ) → Type 0
AreDistinct names = AllPairs (λ name other. name ≢ other) names

-- the catalogue that records, preferences and options open, with no names
abbrev pub opened : FileRecords → CollatorPreferences → CollatorOptions → Catalogue
opened records preferences options =
    record { limits = records.limits; records = records.lines; asked = asked_of options preferences; arrivals = [] }

-- the catalogue that the records of a file open, which was read within limits
abbrev pub opened_by : Limits → List ℕ → CollatorPreferences → CollatorOptions → Catalogue
opened_by limits file preferences options = opened (record { limits = limits; lines = records_of file }) preferences options

-- a catalogue in which a name has arrived
abbrev pub with_name : List ℕ → Catalogue → Catalogue
with_name name s = record s { arrivals = s.arrivals ++ name ∷ [] }

-- a catalogue from which a name was taken
abbrev pub without_name : List ℕ → Catalogue → Catalogue
without_name name s = record s { arrivals = filter (λ other. not (bytes_eq other name)) s.arrivals }

-- a catalogue over other records, with the same names and within the same limits
abbrev pub reloaded : List Record → Catalogue → Catalogue
reloaded records s = record s { records = records }

-- a catalogue in which names have arrived, one after another
abbrev pub with_names : List (List ℕ) → Catalogue → Catalogue
with_names [] s = s
with_names (name ∷ names) s = with_names names (with_name name s)
