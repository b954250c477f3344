-- The character that a line of one kind is for.
use Rattle.std.specs.Prelude.{ℕ, List, [], ◌∷◌}
use Rattle.collate_lines.specs.Record.{Record, class, mapping}

-- the character of a line that gives a class
abbrev pub class_key : Record → List ℕ
class_key (class c k) = c ∷ []
class_key _ = []

-- the character of a line that gives a mapping
abbrev pub mapping_key : Record → List ℕ
mapping_key (mapping c ds is_excluded) = c ∷ []
mapping_key _ = []
