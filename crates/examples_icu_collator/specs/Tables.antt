-- Tables written out as a records file says them, line by line, and the collation that they mean.
use Rattle.std.specs.Prelude.{ℕ, zero, suc, Bool, true, false, cond, not, ◌==◌, ◌&&◌, ◌||◌, List, [], ◌∷◌, flat_map, replicate, Option, Some, None}
use Rattle.std.specs.List.{list_any}
use Rattle.std.specs.Option.{unwrap_or}
use Rattle.icu_normalizer_core.specs.BuiltIn.{is_within, built_in_class, built_in_step, is_built_in, syllable_of}
use Rattle.icu_normalizer_core.specs.Canonical.{Canonical}
use Rattle.icu_collator_types.specs.declared.elements.Element.{Element}
use Rattle.icu_collator_types.specs.declared.options.FileSettings.{FileSettings}
use Rattle.icu_collator_types.specs.Options.{default_settings}
use Rattle.icu_collator_core.specs.Weights.{Range, Weights}
use Rattle.icu_collator_core.specs.Defaults.{range_primary}
use Rattle.icu_collator_core.specs.Collation.{Collation, with_lead}

-- a character's canonical combining class
pub record Class : Type 0 where
  pub character : ℕ
  pub class : ℕ

-- a character's canonical mapping, and whether it is composed again
pub record Mapping : Type 0 where
  pub character : ℕ
  pub mapping : List ℕ
  pub is_composed : Bool

-- the elements of a text after a prefix
pub record Recorded : Type 0 where
  pub prefix : List ℕ
  pub text : List ℕ
  pub elements : List Element

-- a digit and its value
pub record Digit : Type 0 where
  pub character : ℕ
  pub value : ℕ

-- a lead byte, and the one that takes its place
pub record Reordered : Type 0 where
  pub lead : ℕ
  pub index : ℕ

-- What the lines of a file say. Of several lines for one key the first counts.
pub record Table : Type 0 where
  pub classes : List Class
  pub mappings : List Mapping
  pub records : List Recorded
  pub digits : List Digit
  pub ranges : List Range
  pub settings : FileSettings
  pub backward : Bool
  pub dot_above : Bool
  pub numeric_lead : ℕ
  -- the compressible leads but FE, which always is
  pub compressible_leads : List ℕ
  pub groups : List ℕ
  pub reordering : List Reordered

-- what a file with no line says
abbrev pub empty_table : Table
empty_table =
    record {
      classes = [];
      mappings = [];
      records = [];
      digits = [];
      ranges = [];
      settings = default_settings;
      backward = false;
      dot_above = false;
      numeric_lead = 0x10;
      compressible_leads = [];
      groups = replicate 4 0x300;
      reordering = [];
    }

-- the first of what is found in a list
abbrev pub first_found : {A B : Type 0} → (A → Option B) → List A → Option B
first_found found [] = None
first_found found (x ∷ xs) = let later = first_found found xs in elim (found x) [ Some y ↦ Some y | None ↦ later ]

-- whether two texts are the same
abbrev pub is_same_text : List ℕ → List ℕ → Bool
is_same_text [] [] = true
is_same_text [] (d ∷ ds) = false
is_same_text (c ∷ cs) [] = false
is_same_text (c ∷ cs) (d ∷ ds) = (c == d) && is_same_text cs ds

-- the class of a character: what is built in, else what a line says, else 0
unfoldable pub class_of : List Class → ℕ → ℕ
class_of lines c =
    let given = unwrap_or (first_found (λ line. cond (line.character == c) (Some line.class) None) lines) 0
    in elim (built_in_class c) [ Some k ↦ k | None ↦ given ]

-- the canonical mapping of a character: what is built in, else what a line says, else none
unfoldable pub step_of : List Mapping → ℕ → List ℕ
step_of lines c =
    let built_in = unwrap_or (built_in_step c) []
    in let given = unwrap_or (first_found (λ line. cond (line.character == c) (Some line.mapping) None) lines) []
    in cond (is_built_in c) built_in given

-- the character that a line makes of two, unless what it says of it is built in
abbrev pub composed_by : ℕ → ℕ → Mapping → Option ℕ
composed_by a b line =
    cond (line.is_composed && is_same_text line.mapping (a ∷ b ∷ []) && not (is_built_in line.character))
    (Some line.character)
    None

-- what two characters compose to: a syllable, or what a line says
unfoldable pub pair_of : List Mapping → ℕ → ℕ → Option ℕ
pair_of lines a b =
    let given = first_found (composed_by a b) lines in elim (syllable_of a b) [ Some c ↦ Some c | None ↦ given ]

-- what at most so many steps, one after another, leave of a character
unfoldable pub expanded : (ℕ → List ℕ) → ℕ → ℕ → List ℕ
expanded step zero c = c ∷ []
expanded step (suc n) c = elim (step c) [ [] ↦ c ∷ [] | d ∷ ds ↦ flat_map (expanded step n) (d ∷ ds) ]

-- What a table says of characters. Steps without a loop end before each code point had its turn.
abbrev pub canonical_of : Table → Canonical
canonical_of table =
    record {
      class = class_of table.classes;
      step = step_of table.mappings;
      full = expanded (step_of table.mappings) 0x110000;
      pair = pair_of table.mappings;
    }

-- the elements of a text after a prefix
unfoldable pub recorded_of : List Recorded → List ℕ → List ℕ → Option (List Element)
recorded_of records prefix text =
    first_found
    (λ r. cond (is_same_text r.prefix prefix && is_same_text r.text text) (Some r.elements) None)
    records

-- whether the lead byte of primaries is left out of keys after the same
abbrev pub is_compressible_in : Table → ℕ → Bool
is_compressible_in table lead = (lead == 0xfe) || list_any (λ other. other == lead) table.compressible_leads

-- the primary of a character in one of the ranges
abbrev pub ranged_primary_in : Table → ℕ → Option ℕ
ranged_primary_in table c =
    first_found
    (λ r. cond (is_within r.first r.last c) (Some (range_primary (is_compressible_in table) r c)) None)
    table.ranges

-- what a table says of weights
abbrev pub weights_of : Table → Weights
weights_of table =
    record {
      recorded = recorded_of table.records;
      digit = λ c. first_found (λ d. cond (d.character == c) (Some d.value) None) table.digits;
      ranged_primary = ranged_primary_in table;
      is_compressible = is_compressible_in table;
      numeric_lead = table.numeric_lead;
      dot_above = table.dot_above;
    }

-- what a table means
abbrev pub collation_of : Table → Collation
collation_of table =
    record {
      canonical = canonical_of table;
      weights = weights_of table;
      options = table.settings;
      backward = table.backward;
      groups = table.groups;
      reordered =
          with_lead (λ lead. unwrap_or (first_found (λ r. cond (r.lead == lead) (Some r.index) None) table.reordering) lead);
    }
