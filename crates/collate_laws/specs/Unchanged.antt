-- Characters and texts of which two files say the same.
use Rattle.std.specs.Prelude.{ℕ, List, [], ◌∷◌}
use Rattle.std.specs.Option.{unwrap_or}
use Rattle.icu_normalizer_core.specs.Canonical.{Reaches}
use Rattle.icu_collator_types.specs.declared.elements.Element.{Element}
use Rattle.icu_collator_core.specs.Defaults.{default_elements}
use Rattle.icu_collator_core.specs.Weights.{Weights}
use Rattle.collate_lines.specs.Record.{Record}
use Rattle.collate_records.specs.Changes.{IsUnchanged}
use Rattle.collate_rules.specs.Meaning.{step_of}

-- the elements of a character alone: its record, or what it is without one
abbrev pub lone_elements : Weights → ℕ → List Element
lone_elements weights c = unwrap_or (weights.recorded [] (c ∷ [])) (default_elements weights c)

-- a text reaches no changed character, by the steps of the first file
abbrev pub ReachesUnchanged : List Record → List Record → List ℕ → Type 0
ReachesUnchanged old new text = (c : ℕ) → Reaches (step_of old) text c → IsUnchanged old new c
