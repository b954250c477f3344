-- Two tables that say the same in other lines, and a third with a record that has changed.
use Rattle.std.specs.Prelude.{◌≢◌, ℕ, List, [], ◌∷◌, reverse}
use Rattle.icu_normalizer_core.specs.Canonical.{Reaches}
use Rattle.icu_collator_core.specs.Collation.{Collation}
use Rattle.examples_icu_collator.specs.Tables.{Table, collation_of}
use Rattle.examples_icu_collator.specs.LetterTables.{text_at, with_records}
use Rattle.examples_icu_collator.specs.Letters.{digits_table, ideographs, letters}

-- a range whose first character has a record of its own, which counts before the range
abbrev pub ranged_table : Table
ranged_table = record (with_records (text_at (0x4e00 ∷ []) 0x2c10 ∷ []) digits_table) { ranges = ideographs ∷ [] }

-- the range without that character, and the classes in another order
abbrev pub other_table : Table
other_table =
    record ranged_table {
      classes = reverse ranged_table.classes;
      ranges = record { first = 0x4e01; last = 0x9fff; primary = 0xe0020300; step = 1 } ∷ [];
    }

abbrev pub ranged_collation : Collation
ranged_collation = collation_of ranged_table

abbrev pub other_collation : Collation
other_collation = collation_of other_table

-- another record of "b", which counts before its own
abbrev pub changed_collation : Collation
changed_collation = collation_of (with_records (text_at (0x62 ∷ []) 0x2a28 ∷ []) ranged_table)

-- no "b" stands in a text or comes of it by mappings
abbrev pub ReachesNoB : List ℕ → Type 0
ReachesNoB text = (c : ℕ) → Reaches letters.step text c → c ≢ 0x62
