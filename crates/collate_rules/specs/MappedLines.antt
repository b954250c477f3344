-- What is noted of the mappings of lines: to how many characters the first of each kind maps a character.
use Rattle.std.specs.Prelude.{◌≡◌, ℕ, List, length, Option, Some, None, option_map}
use Rattle.std.specs.Ordering.{nat_cmp}
use Rattle.std.specs.BTreeMap.{BTreeMap, get}
use Rattle.collate_lines.specs.Record.{Record, mapping, compatibility}
use Rattle.collate_rules.specs.Meaning.{compatibility_in, first_found, mapping_in}

-- the character that a line maps canonically, and to how many
abbrev pub mapping_line : Record → Option (ℕ × ℕ)
mapping_line (mapping c ds is_excluded) = Some (c, length ds)
mapping_line _ = None

-- the character that a line maps by compatibility, and to how many
abbrev pub compatibility_line : Record → Option (ℕ × ℕ)
compatibility_line (compatibility c ds) = Some (c, length ds)
compatibility_line _ = None

-- to how many characters a line maps a character canonically, or by compatibility
abbrev pub mapping_length : ℕ → Record → Option ℕ
mapping_length c line = option_map length (mapping_in c line)

abbrev pub compatibility_length : ℕ → Record → Option ℕ
compatibility_length c line = option_map length (compatibility_in c line)

-- a map has to how many characters lines map first
abbrev pub HasMappings : BTreeMap ℕ ℕ → List Record → Type 0
HasMappings lengths lines = (c : ℕ) → get nat_cmp lengths c ≡ first_found (mapping_length c) lines

abbrev pub HasCompatibilities : BTreeMap ℕ ℕ → List Record → Type 0
HasCompatibilities lengths lines = (c : ℕ) → get nat_cmp lengths c ≡ first_found (compatibility_length c) lines
