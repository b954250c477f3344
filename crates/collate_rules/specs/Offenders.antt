-- The lines that offend against a rule, and the first of them. Lines count from 0.
use Rattle.std.specs.Prelude.{ℕ, ◌<◌, List, length}
use Rattle.collate_lines.specs.declared.rule.Rule.{Rule}
use Rattle.collate_lines.specs.Record.{Record}
use Rattle.collate_lines.specs.declared.limits.Limits.{Limits}
use Rattle.collate_rules.specs.Rules.{Offends, OffendsWithin}

-- no line offends against a rule
abbrev pub NoneOffends : Rule → List Record → Type 0
NoneOffends rule records = (i : ℕ) → i < length records → Offends rule records i → ⊥

-- line i offends against a rule, and no line before it
abbrev pub IsFirstOffender : Rule → List Record → ℕ → Type 0
IsFirstOffender rule records i =
    (i < length records) × Offends rule records i × ((j : ℕ) → j < i → Offends rule records j → ⊥)

-- no line offends against a rule, by these limits
abbrev pub NoneOffendsWithin : Limits → Rule → List Record → Type 0
NoneOffendsWithin limits rule records = (i : ℕ) → i < length records → OffendsWithin limits rule records i → ⊥

-- line i offends against a rule, by these limits, and no line before it
abbrev pub IsFirstOffenderWithin : Limits → Rule → List Record → ℕ → Type 0
IsFirstOffenderWithin limits rule records i =
    (i < length records) × OffendsWithin limits rule records i × ((j : ℕ) → j < i → OffendsWithin limits rule records j → ⊥)
