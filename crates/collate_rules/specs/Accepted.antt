-- Lines of an accepted file: what they say, and that they keep the rules.
use Rattle.std.specs.Prelude.{◌≡◌, ℕ, ◌<◌, ◌≤◌, List, length, All, Some}
use Rattle.std.specs.Char.{IsScalar}
use Rattle.collate_lines.specs.declared.rule.Rule.{Rule}
use Rattle.collate_lines.specs.Record.{Record, class, mapping}
use Rattle.collate_lines.specs.Grammar.{record_of}
use Rattle.collate_rules.specs.Offenders.{NoneOffends}

-- a class that a line gives is below 256
abbrev pub HasSmallClass : Record → Type 0
HasSmallClass (class c k) = k < 256
HasSmallClass _ = Unit {0}

-- a line maps to at most two characters, scalar values
abbrev pub MapsToScalars : Record → Type 0
MapsToScalars (mapping c ds is_excluded) = All IsScalar ds × (length ds ≤ 2)
MapsToScalars _ = Unit {0}

-- each mapping is to at most two characters, scalar values
abbrev pub AreScalars : List Record → Type 0
AreScalars records = All MapsToScalars records

-- a line in the grammar says this
abbrev pub IsSaid : Record → Type 0
IsSaid given = (line : List ℕ) × (record_of line ≡ Some given)

-- Lines as a file has them that is accepted within some limits: each is in the grammar, and none offends against a rule.
pub record AreAccepted (records : List Record) : Type 0 where
  pub in_grammar : All IsSaid records
  pub keep_rules : (rule : Rule) → NoneOffends rule records
