-- What the lines of a records file mean together.
use Rattle.std.specs.Prelude.{ℕ, Bool, false, cond, not, ◌==◌, ◌&&◌, ◌||◌, List, [], ◌∷◌, flat_map, replicate, zero, suc, Option, Some, None, bytes_eq}
use Rattle.std.specs.Option.{unwrap_or}
use Rattle.std.specs.List.{list_any}
use Rattle.icu_normalizer_core.specs.BuiltIn.{built_in_class, built_in_step, built_in_compatibility_step, is_built_in, syllable_of, is_within}
use Rattle.icu_normalizer_core.specs.Canonical.{Canonical}
use Rattle.icu_collator_types.specs.declared.elements.Element.{Element}
use Rattle.icu_collator_types.specs.declared.options.AlternateHandling.{AlternateHandling}
use Rattle.icu_collator_types.specs.declared.options.CollationCaseFirst.{CollationCaseFirst}
use Rattle.icu_collator_types.specs.declared.options.MaxVariable.{MaxVariable}
use Rattle.icu_collator_types.specs.declared.options.FileSettings.{FileSettings}
use Rattle.icu_collator_types.specs.Options.{default_settings}
use Rattle.icu_collator_core.specs.Weights.{Weights, Range}
use Rattle.icu_collator_core.specs.Defaults.{range_primary}
use Rattle.icu_collator_core.specs.Collation.{Collation, with_lead}
use Rattle.collate_lines.specs.declared.record.Range.{Range as LineRange}
use Rattle.collate_lines.specs.Record.{Record, class, mapping, compatibility, weights, range, digit, setting, Layer, root, tailoring, is_same_layer, alternate, backward, case_first, max_variable, dot_above, numeric, groups, compress, reorder}

-- the first of what is found in a list
abbrev pub first_found : {A B : Type 0} → (A → Option B) → List A → Option B
first_found found [] = None
first_found found (x ∷ xs) = let later = first_found found xs in elim (found x) [ Some y ↦ Some y | None ↦ later ]

-- ## Canonical data

abbrev pub class_in : ℕ → Record → Option ℕ
class_in c (class d k) = cond (c == d) (Some k) None
class_in c _ = None

abbrev pub mapping_in : ℕ → Record → Option (List ℕ)
mapping_in c (mapping d ds is_excluded) = cond (c == d) (Some ds) None
mapping_in c _ = None

abbrev pub compatibility_in : ℕ → Record → Option (List ℕ)
compatibility_in c (compatibility d ds) = cond (c == d) (Some ds) None
compatibility_in c _ = None

-- the character that this line makes of two, unless what it says of it is built in
abbrev pub composed_in : ℕ → ℕ → Record → Option ℕ
composed_in a b (mapping c (d ∷ e ∷ []) false) =
    cond ((a == d) && (b == e) && not (is_built_in c)) (Some c) None
composed_in a b _ = None

-- the class of a character: what is built in, else what a line says, else 0
abbrev pub class_of : List Record → ℕ → ℕ
class_of records c = unwrap_or (built_in_class c) (unwrap_or (first_found (class_in c) records) 0)

-- the canonical mapping of a character: what is built in, else what a line says, else none
abbrev pub step_of : List Record → ℕ → List ℕ
step_of records c =
    cond (is_built_in c) (unwrap_or (built_in_step c) []) (unwrap_or (first_found (mapping_in c) records) [])

-- the compatibility mapping that a line says, where nothing is built in
abbrev pub compatibility_of : List Record → ℕ → List ℕ
compatibility_of records c = cond (is_built_in c) [] (unwrap_or (first_found (compatibility_in c) records) [])

-- a mapping, or another where that is none
abbrev pub else_mapped : List ℕ → List ℕ → List ℕ
else_mapped [] other = other
else_mapped (d ∷ ds) other = d ∷ ds

-- The mapping of a character of either kind, which has one at most: what is built in, else what a line says, else none.
abbrev pub any_step : List Record → ℕ → List ℕ
any_step records c =
    unwrap_or (built_in_compatibility_step c) (else_mapped (step_of records c) (compatibility_of records c))

-- what two characters compose to: a syllable, or what a line says
abbrev pub pair_of : List Record → ℕ → ℕ → Option ℕ
pair_of records a b = elim (syllable_of a b) [ Some c ↦ Some c | None ↦ first_found (composed_in a b) records ]

-- what is left of a character after at most n steps, one after another
unfoldable pub expanded : (ℕ → List ℕ) → ℕ → ℕ → List ℕ
expanded step zero c = c ∷ []
expanded step (suc n) c = elim (step c) [ [] ↦ c ∷ [] | d ∷ ds ↦ flat_map (expanded step n) (d ∷ ds) ]

-- The full list of a character. Steps without a loop end before each code point had its turn.
abbrev pub full_of : List Record → ℕ → List ℕ
full_of records c = expanded (step_of records) 0x110000 c

-- what records say of characters
abbrev pub canonical_of : List Record → Canonical
canonical_of records =
    record { class = class_of records; step = step_of records; full = full_of records; pair = pair_of records }

-- ## Weights

-- the elements that a line of a layer gives to a text after a prefix
abbrev pub elements_in : Layer → List ℕ → List ℕ → Record → Option (List Element)
elements_in layer prefix text (weights of_layer before key es) =
    cond (is_same_layer layer of_layer && bytes_eq prefix before && bytes_eq text key) (Some es) None
elements_in layer prefix text _ = None

-- The elements of a text after a prefix. A record of the tailoring replaces the one of the same prefix and text.
abbrev pub recorded_in : List Record → List ℕ → List ℕ → Option (List Element)
recorded_in records prefix text =
    let of_root = first_found (elements_in root prefix text) records
    in elim (first_found (elements_in tailoring prefix text) records) [ Some es ↦ Some es | None ↦ of_root ]

abbrev pub digit_in : ℕ → Record → Option ℕ
digit_in c (digit d value) = cond (c == d) (Some value) None
digit_in c _ = None

-- a range as weights have it
abbrev pub span_of : LineRange → Range
span_of r = record { first = r.first; last = r.last; primary = r.primary; step = r.step }

-- the range that holds a character
abbrev pub range_in : ℕ → Record → Option Range
range_in c (range r) = cond (is_within r.first r.last c) (Some (span_of r)) None
range_in c _ = None

-- ## Settings

abbrev pub alternate_in : Record → Option AlternateHandling
alternate_in (setting (alternate a)) = Some a
alternate_in _ = None

abbrev pub backward_in : Record → Option Bool
backward_in (setting (backward b)) = Some b
backward_in _ = None

abbrev pub case_first_in : Record → Option CollationCaseFirst
case_first_in (setting (case_first c)) = Some c
case_first_in _ = None

abbrev pub max_variable_in : Record → Option MaxVariable
max_variable_in (setting (max_variable m)) = Some m
max_variable_in _ = None

abbrev pub dot_above_in : Record → Option Bool
dot_above_in (setting (dot_above b)) = Some b
dot_above_in _ = None

abbrev pub numeric_in : Record → Option ℕ
numeric_in (setting (numeric lead)) = Some lead
numeric_in _ = None

abbrev pub groups_in : Record → Option (List ℕ)
groups_in (setting (groups ends)) = Some ends
groups_in _ = None

abbrev pub compress_in : Record → Option (List ℕ)
compress_in (setting (compress leads)) = Some leads
compress_in _ = None

abbrev pub reorder_in : Record → Option (List (ℕ × ℕ))
reorder_in (setting (reorder pairs)) = Some pairs
reorder_in _ = None

-- what a setting is set to, or its default
abbrev pub set_to : {A : Type 0} → (Record → Option A) → A → List Record → A
set_to found default records = unwrap_or (first_found found records) default

-- FE is compressible, and so are the leads that a line lists
abbrev pub is_compressible_in : List Record → ℕ → Bool
is_compressible_in records lead = (lead == 0xfe) || list_any (λ other. other == lead) (set_to compress_in [] records)

-- the lead that takes the place of another
abbrev pub place_among : List (ℕ × ℕ) → ℕ → ℕ
place_among pairs lead = unwrap_or (first_found (λ pair. cond (pair.0 == lead) (Some pair.1) None) pairs) lead

-- what records set of the options
abbrev pub settings_of : List Record → FileSettings
settings_of records =
    record {
      alternate_handling = set_to alternate_in default_settings.alternate_handling records;
      case_first = set_to case_first_in default_settings.case_first records;
      max_variable = set_to max_variable_in default_settings.max_variable records;
    }

-- ## The whole

-- what records say of weights
abbrev pub weights_of : List Record → Weights
weights_of records =
    record {
      recorded = recorded_in records;
      digit = λ c. first_found (digit_in c) records;
      ranged_primary = λ c. elim (first_found (range_in c) records) [ Some r ↦ Some (range_primary (is_compressible_in records) r c) | None ↦ None ];
      is_compressible = is_compressible_in records;
      numeric_lead = set_to numeric_in 0x10 records;
      dot_above = set_to dot_above_in false records;
    }

-- what records mean
abbrev pub collation_of : List Record → Collation
collation_of records =
    record {
      canonical = canonical_of records;
      weights = weights_of records;
      options = settings_of records;
      backward = set_to backward_in false records;
      groups = set_to groups_in (replicate 4 0x300) records;
      reordered = with_lead (place_among (set_to reorder_in [] records));
    }
