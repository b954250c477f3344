-- Full lists, as far as they are looked at.
use Rattle.std.specs.Prelude.{◌≡◌, ℕ, Bool, false, List, length, min, Option, Some, None, not, ◌==◌, slice_get}
use Rattle.collate_rules.specs.declared.full_list.Front.{Front}
use Rattle.collate_rules.specs.declared.full_list.Mappings.{Mappings}
use Rattle.collate_rules.specs.declared.full_list.Mappings.TheVariants.{Canonical, All}
use Rattle.collate_lines.specs.Record.{Record}
use Rattle.collate_rules.specs.Meaning.{class_of, step_of, any_step}

-- the steps of these mappings
abbrev pub steps_by : Mappings → List Record → ℕ → List ℕ
steps_by Canonical records c = step_of records c
steps_by All records c = any_step records c

-- whether there is a character, and it is a mark
abbrev pub is_mark_at : List Record → Option ℕ → Bool
is_mark_at records None = false
is_mark_at records (Some c) = not (class_of records c == 0)

-- how a list begins, and how many characters it has, those past nine aside
abbrev pub IsFront : Front → List ℕ → Type 0
IsFront front list = (front.first ≡ slice_get list 0) × (front.count ≡ min (length list) 9)
