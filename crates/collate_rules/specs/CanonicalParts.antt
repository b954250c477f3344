-- What lines say of canonical data, as it is kept apart from what else they say.
use Rattle.std.specs.Prelude.{◌≡◌, ℕ, ◌≤◌, List, length, map, take}
use Rattle.icu_normalizer_core.specs.Properties.{mapped_to}
use Rattle.collate_rules.specs.declared.canonical_part.CanonicalPart.{CanonicalPart}
use Rattle.collate_rules.specs.declared.canonical_part.CanonicalPart.TheVariants.{Class, Map, Kmap}
use Rattle.collate_rules.specs.declared.step.Step.{Step}
use Rattle.collate_lines.specs.Record.{Record, class, mapping, compatibility}
use Rattle.collate_rules.specs.Meaning.{class_in, mapping_in, compatibility_in, composed_in, first_found}

-- the characters that a mapping gives
abbrev pub step_items : Step → List ℕ
step_items step = take step.count step.characters

-- a part as the line that would say it
abbrev pub in_full : CanonicalPart → Record
in_full (Class c k) = class c k
in_full (Map c step is_excluded) = mapping c (mapped_to step) is_excluded
in_full (Kmap c step) = compatibility c (step_items step)

-- lines that say the same of classes, mappings and composed pairs
pub record SaysSame (lines others : List Record) : Type 0 where
  pub classes : (c : ℕ) → first_found (class_in c) lines ≡ first_found (class_in c) others
  pub mappings : (c : ℕ) → first_found (mapping_in c) lines ≡ first_found (mapping_in c) others
  pub compatibilities : (c : ℕ) → first_found (compatibility_in c) lines ≡ first_found (compatibility_in c) others
  pub pairs : (a b : ℕ) → first_found (composed_in a b) lines ≡ first_found (composed_in a b) others

-- parts that say what lines say, and a beginning of them what each beginning of the lines says
pub record AreOf (parts : List CanonicalPart) (lines : List Record) : Type 0 where
  pub whole : SaysSame (map in_full parts) lines
  pub beginnings : (k : ℕ) → (j : ℕ) × (j ≤ length parts) × SaysSame (map in_full (take j parts)) (take k lines)

-- the compatibility mapping of a line, if it gives one, has at most eight characters
abbrev pub IsShort : Record → Type 0
IsShort (compatibility c ds) = length ds ≤ 8
IsShort _ = Unit {0}

-- the character of which a part says something
abbrev pub subject_of : CanonicalPart → ℕ
subject_of (Class c k) = c
subject_of (Map c step is_excluded) = c
subject_of (Kmap c step) = c
