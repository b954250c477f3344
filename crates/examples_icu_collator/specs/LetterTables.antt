-- The tables that the laws are applied to: eight letters and three accents, and what is put with them.
use Rattle.std.specs.Prelude.{ℕ, ◌*◌, ◌+◌, ◌^◌, true, List, [], ◌∷◌, ◌++◌, map}
use Rattle.icu_collator_types.specs.declared.elements.Element.{Element}
use Rattle.icu_collator_core.specs.Defaults.{primary_element}
use Rattle.examples_icu_collator.specs.Tables.{Table, Recorded, Class, Mapping, empty_table}

-- an element without a primary: an accent
abbrev pub accent_element : ℕ → Element
accent_element s = record { primary = 0; secondary = s; case = 0; tertiary = 0x500; quaternary = 0 }

-- an element of a letter in upper case
abbrev pub upper_element : ℕ → Element
upper_element p = record { primary = p; secondary = 0x500; case = 2; tertiary = 0x900; quaternary = 0 }

-- a line that gives a text elements
abbrev pub text_with : List ℕ → List Element → Recorded
text_with text elements = record { prefix = []; text = text; elements = elements }

-- a line that gives a text a primary with this upper half
abbrev pub text_at : List ℕ → ℕ → Recorded
text_at text p = text_with text (primary_element (p * 2 ^ 16) ∷ [])

-- a line that gives an accent a secondary
abbrev pub accent_at : ℕ → ℕ → Recorded
accent_at c s = text_with (c ∷ []) (accent_element s ∷ [])

abbrev pub class_at : ℕ → ℕ → Class
class_at c k = record { character = c; class = k }

-- a line by which a character is composed of two
abbrev pub composed_of : ℕ → ℕ → ℕ → Mapping
composed_of c first second = record { character = c; mapping = first ∷ second ∷ []; is_composed = true }

-- the letters a, b, c, e, h, l, o and t, with an acute, a circumflex and a dot below
abbrev pub letters_table : Table
letters_table =
    record empty_table {
      classes = class_at 0x302 230 ∷ class_at 0x323 220 ∷ [];
      mappings = composed_of 0xe1 0x61 0x301 ∷ composed_of 0x1ea1 0x61 0x323 ∷ [];
      records =
          text_at (0x61 ∷ []) 0x2a10 ∷ text_at (0x62 ∷ []) 0x2a20 ∷ text_at (0x63 ∷ []) 0x2a30
          ∷ text_at (0x65 ∷ []) 0x2a50 ∷ text_at (0x68 ∷ []) 0x2a80 ∷ text_at (0x6c ∷ []) 0x2ac0
          ∷ text_at (0x6f ∷ []) 0x2af0 ∷ text_at (0x74 ∷ []) 0x2b40
          ∷ accent_at 0x301 0x8800 ∷ accent_at 0x302 0x8a00 ∷ accent_at 0x323 0x8c00 ∷ [];
    }

-- A table with these records too. They stand in front, so each counts before one for the same text.
abbrev pub with_records : List Recorded → Table → Table
with_records records table = record table { records = records ++ table.records }

-- "A" as an "a" in upper case
abbrev pub upper_a : Recorded
upper_a = text_with (0x41 ∷ []) (upper_element 0x2a100000 ∷ [])

-- a table with a space and a full stop too, each the last of a variable group
abbrev pub with_stops : Table → Table
with_stops table =
    record (with_records (text_at (0x20 ∷ []) 0x304 ∷ text_at (0x2e ∷ []) 0x308 ∷ []) table) {
      groups = 0x306 ∷ 0x30a ∷ 0x30a ∷ 0x30a ∷ [];
    }

-- a table with the ten digits too, which by themselves are letters at 1110 to 1119
abbrev pub with_digits : Table → Table
with_digits table =
    let values = 0 ∷ 1 ∷ 2 ∷ 3 ∷ 4 ∷ 5 ∷ 6 ∷ 7 ∷ 8 ∷ 9 ∷ []
    in record table {
      digits = map (λ v. record { character = 0x30 + v; value = v }) values;
      records = map (λ v. text_at ((0x30 + v) ∷ []) (0x1110 + v)) values ++ table.records;
    }
