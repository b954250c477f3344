-- What maps note of classes and mappings that lines give, to be looked up: of two lines on one character, or on one pair, the first.
use Rattle.std.specs.Prelude.{◌≡◌, ℕ, Bool, false, cond, ◌==◌, List, Option, Some, None, option_map}
use Rattle.std.specs.declared.cmp.Ordering.{Ordering}
use Rattle.std.specs.Ordering.{nat_cmp, ordering_then}
use Rattle.std.specs.BTreeMap.{BTreeMap, get}
use Rattle.std.specs.BTreeSet.{BTreeSet, contains}
use Rattle.std.specs.List.{list_any}
use Rattle.icu_normalizer_core.specs.BuiltIn.{is_built_in}
use Rattle.icu_normalizer_core.specs.declared.decomposed.Decomposed.{Decomposed}
use Rattle.icu_normalizer_core.specs.declared.decomposed.Decomposed.TheVariants.{Expansion}
use Rattle.icu_normalizer_core.specs.Properties.{mapped_to}
use Rattle.std.specs.Option.{unwrap_or}
use Rattle.collate_lines.specs.Record.{Record, mapping}
use Rattle.collate_rules.specs.declared.canonical_part.CanonicalPart.{CanonicalPart}
use Rattle.collate_rules.specs.declared.canonical_part.CanonicalPart.TheVariants.{Class, Map, Kmap}
use Rattle.collate_rules.specs.declared.step.Step.{Step}
use Rattle.collate_rules.specs.CanonicalParts.{step_items}
use Rattle.collate_rules.specs.Meaning.{compatibility_in, composed_in, first_found, mapping_in}
use Rattle.collate_rules.specs.Rules.{is_same_pair, pair_in}

-- what a part gives, and to which character: a class,
abbrev pub class_in_part : CanonicalPart → Option (ℕ × ℕ)
class_in_part (Class c k) = Some (c, k)
class_in_part _ = None

-- a canonical mapping,
abbrev pub mapping_in_part : CanonicalPart → Option (ℕ × Decomposed)
mapping_in_part (Map c step is_excluded) = Some (c, step)
mapping_in_part _ = None

-- whether it has an x,
abbrev pub exclusion_in_part : CanonicalPart → Option (ℕ × Bool)
exclusion_in_part (Map c step is_excluded) = Some (c, is_excluded)
exclusion_in_part _ = None

-- or a compatibility mapping
abbrev pub compatibility_in_part : CanonicalPart → Option (ℕ × Step)
compatibility_in_part (Kmap c step) = Some (c, step)
compatibility_in_part _ = None

-- the two characters that a part composes, and to which, unless what it says of that one is built in
abbrev pub pair_in_part : CanonicalPart → Option ((ℕ × ℕ) × ℕ)
pair_in_part (Map c (Expansion d e) false) = cond (is_built_in c) None (Some ((d, e), c))
pair_in_part _ = None

-- a map has the canonical mappings that lines give first
abbrev pub HasMappings : BTreeMap ℕ Decomposed → List Record → Type 0
HasMappings mappings lines = (c : ℕ) → option_map mapped_to (get nat_cmp mappings c) ≡ first_found (mapping_in c) lines

-- whether a line that maps a character canonically keeps it out of the composed pairs
abbrev pub excluded_in : ℕ → Record → Option Bool
excluded_in c (mapping d ds is_excluded) = cond (c == d) (Some is_excluded) None
excluded_in c _ = None

-- whether the first such line does
abbrev pub is_excluded : List Record → ℕ → Bool
is_excluded lines c = unwrap_or (first_found (excluded_in c) lines) false

-- a map has for each mapped character whether the first line that maps it does
abbrev pub HasExclusions : BTreeMap ℕ Bool → List Record → Type 0
HasExclusions exclusions lines = (c : ℕ) → get nat_cmp exclusions c ≡ first_found (excluded_in c) lines

-- a map has the compatibility mappings
abbrev pub HasCompatibilities : BTreeMap ℕ Step → List Record → Type 0
HasCompatibilities compatibilities lines =
    (c : ℕ) → option_map step_items (get nat_cmp compatibilities c) ≡ first_found (compatibility_in c) lines

-- pairs in the order of their first characters, then of their second ones
abbrev pub pair_cmp : (ℕ × ℕ) → (ℕ × ℕ) → Ordering
pair_cmp p q = ordering_then (nat_cmp p.0 q.0) (nat_cmp p.1 q.1)

-- a map has the characters that lines make of two
abbrev pub HasPairs : BTreeMap (ℕ × ℕ) ℕ → List Record → Type 0
HasPairs pairs lines = (a b : ℕ) → get pair_cmp pairs (a, b) ≡ first_found (composed_in a b) lines

-- a set has the pairs that lines compose
abbrev pub HasComposed : BTreeSet (ℕ × ℕ) → List Record → Type 0
HasComposed pairs lines = (a b : ℕ) → contains pair_cmp pairs (a, b) ≡ list_any (λ s. is_same_pair (pair_in s) (Some (a, b))) lines
