-- What is read of a text, and how two texts that were read compare.
use Rattle.std.specs.Prelude.{◌≡◌, ℕ, true, cond, List, map, Option, Some, None}
use Rattle.std.specs.Ordering.{nat_cmp, ordering_then}
use Rattle.std.specs.Cmp.Lexicographic.{slice_cmp}
use Rattle.std.specs.declared.cmp.Ordering.{Ordering}
use Rattle.icu_normalizer_core.specs.Canonical.{decomposed}
use Rattle.icu_collator_types.specs.declared.options.Strength.TheVariants.{Secondary, Tertiary, Quaternary, Identical}
use Rattle.icu_collator_types.specs.declared.options.ResolvedCollatorOptions.{ResolvedCollatorOptions}
use Rattle.icu_collator_types.specs.Options.{has_case_level, is_at_least, is_numeric}
use Rattle.icu_collator_core.specs.Acceptance.{CollationSource}
use Rattle.icu_collator_core.specs.Collation.{Collation}
use Rattle.icu_collator_core.specs.Elements.{elements_of_list}
use Rattle.icu_collator.specs.declared.read_texts.texts.ReadText.{ReadText}
use Rattle.icu_collator.specs.LevelLists.{cases_by, counted_list, primaries_by, quaternary_ranks, secondary_ranks, tertiaries_by}
use Rattle.icu_collator.specs.Order.{character_rank, where_in_force}
use Rattle.icu_collator.specs.Shifted.{Counted, counted}

-- the lead byte of numbers, where digits count
abbrev pub numeric_by : CollationSource → ResolvedCollatorOptions → Option ℕ
numeric_by source options = cond (is_numeric options.numeric) (Some source.tables.special_primaries.numeric_primary) None

-- the elements that count in a text that was read
abbrev pub counted_in : ReadText → List Counted
counted_in text = counted_list text.variable_end text.elements.now

-- what is read of a decomposed list: its elements that count, and at Identical its characters
pub record IsReadList (collation : Collation) (options : ResolvedCollatorOptions) (list items : List ℕ) (variable_end : ℕ) (kept : List ℕ) : Type 0 where
  pub elements : counted_list variable_end items
      ≡ counted collation options (elements_of_list collation.canonical collation.weights (is_numeric options.numeric) list)
  pub characters : is_at_least options.strength Identical ≡ true → kept ≡ list

-- the same of a text
abbrev pub IsReadOf : Collation → ResolvedCollatorOptions → List ℕ → List ℕ → ℕ → List ℕ → Type 0
IsReadOf collation options text items variable_end kept =
    IsReadList collation options (decomposed collation.canonical text) items variable_end kept

-- ## How texts that were read compare: level by level, each where it is in force

abbrev pub lists_order : List ℕ → List ℕ → Ordering
lists_order xs ys = slice_cmp nat_cmp xs ys

abbrev pub read_primaries_order : Collation → ReadText → ReadText → Ordering
read_primaries_order collation a b = lists_order (primaries_by collation (counted_in a)) (primaries_by collation (counted_in b))

abbrev pub read_secondaries_order : Collation → ResolvedCollatorOptions → ReadText → ReadText → Ordering
read_secondaries_order collation options a b =
    where_in_force (is_at_least options.strength Secondary)
    (lists_order (secondary_ranks collation (counted_in a)) (secondary_ranks collation (counted_in b)))

abbrev pub read_cases_order : ResolvedCollatorOptions → ReadText → ReadText → Ordering
read_cases_order options a b =
    where_in_force (has_case_level options.case_level)
    (lists_order (cases_by options (counted_in a)) (cases_by options (counted_in b)))

abbrev pub read_tertiaries_order : ResolvedCollatorOptions → ReadText → ReadText → Ordering
read_tertiaries_order options a b =
    where_in_force (is_at_least options.strength Tertiary)
    (lists_order (tertiaries_by options (counted_in a)) (tertiaries_by options (counted_in b)))

abbrev pub read_quaternaries_order : Collation → ResolvedCollatorOptions → ReadText → ReadText → Ordering
read_quaternaries_order collation options a b =
    where_in_force (is_at_least options.strength Quaternary)
    (lists_order (quaternary_ranks collation (counted_in a)) (quaternary_ranks collation (counted_in b)))

abbrev pub read_characters_order : ResolvedCollatorOptions → ReadText → ReadText → Ordering
read_characters_order options a b =
    where_in_force (is_at_least options.strength Identical)
    (lists_order (map character_rank a.characters.now) (map character_rank b.characters.now))

-- from a level on
unfoldable pub order_from_quaternaries : Collation → ResolvedCollatorOptions → ReadText → ReadText → Ordering
order_from_quaternaries collation options a b =
    ordering_then (read_quaternaries_order collation options a b) (read_characters_order options a b)

unfoldable pub order_from_tertiaries : Collation → ResolvedCollatorOptions → ReadText → ReadText → Ordering
order_from_tertiaries collation options a b =
    ordering_then (read_tertiaries_order options a b) (order_from_quaternaries collation options a b)

unfoldable pub order_from_cases : Collation → ResolvedCollatorOptions → ReadText → ReadText → Ordering
order_from_cases collation options a b =
    ordering_then (read_cases_order options a b) (order_from_tertiaries collation options a b)

unfoldable pub order_from_secondaries : Collation → ResolvedCollatorOptions → ReadText → ReadText → Ordering
order_from_secondaries collation options a b =
    ordering_then (read_secondaries_order collation options a b) (order_from_cases collation options a b)

-- all levels in turn
unfoldable pub read_order : Collation → ResolvedCollatorOptions → ReadText → ReadText → Ordering
read_order collation options a b =
    ordering_then (read_primaries_order collation a b) (order_from_secondaries collation options a b)
