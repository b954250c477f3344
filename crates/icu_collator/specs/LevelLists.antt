-- The lists that a comparison and a key are made of: elements of 64 bits that count, and what they give at each level.
use Rattle.std.specs.Prelude.{ℕ, ◌+◌, ◌-◌, ◌*◌, ◌/◌, ◌^◌, ◌==◌, ◌&&◌, Bool, true, cond, leb, ltb, List, get_or, map, filter_map}
use Rattle.icu_collator_types.specs.declared.elements.Element.{Element}
use Rattle.icu_collator_types.specs.declared.options.CollationCaseFirst.{CollationCaseFirst}
use Rattle.icu_collator_types.specs.declared.options.ResolvedCollatorOptions.{ResolvedCollatorOptions}
use Rattle.icu_collator_types.specs.Options.{has_case_bits, group_index, is_shifted, is_upper_first}
use Rattle.icu_collator_core.specs.Collation.{Collation}
use Rattle.icu_collator_core.specs.Pools.{element_of}
use Rattle.icu_collator.specs.declared.levels.counted_elements.CountedElement.{CountedElement}
use Rattle.icu_collator.specs.declared.levels.counted_elements.CountedElement.TheVariants.{Whole, Variable}
use Rattle.icu_collator.specs.Shifted.{Counted, whole, variable}
use Rattle.icu_collator.specs.Levels.{case_at, primary_at, quaternary_at, secondaries_of, tertiary_at}
use Rattle.icu_collator.specs.Order.{quaternary_rank, secondary_rank}

-- an element that counts, by its weights
abbrev pub counted_of : CountedElement → Counted
counted_of (Whole bits) = whole (element_of bits)
counted_of (Variable primary) = variable primary

-- an element of 64 bits that counts: it is variable if its primary lies above that of U+FFFE and below this end
unfoldable pub counted_by : ℕ → ℕ → Counted
counted_by end bits =
    let primary = bits / 2 ^ 32
    in let by_primary = variable primary
    in let by_weights = whole (element_of bits)
    in cond (ltb 0x02000000 primary && ltb primary end) by_primary by_weights

abbrev pub counted_list : ℕ → List ℕ → List Counted
counted_list end items = map (counted_by end) items

-- below this primary, and above that of U+FFFE, elements are variable: 0 where none is
abbrev pub variable_end_of : Collation → ResolvedCollatorOptions → ℕ
variable_end_of collation options =
    cond (is_shifted options.alternate_handling) (get_or collation.groups (group_index options.max_variable) 0 * 2 ^ 16) 0

-- ## The level of each kind

abbrev pub primaries_by : Collation → List Counted → List ℕ
primaries_by collation es = filter_map (primary_at collation) es

abbrev pub secondary_ranks : Collation → List Counted → List ℕ
secondary_ranks collation es = map secondary_rank (secondaries_of collation es)

abbrev pub cases_by : ResolvedCollatorOptions → List Counted → List ℕ
cases_by options es = filter_map (case_at options) es

abbrev pub tertiaries_by : ResolvedCollatorOptions → List Counted → List ℕ
tertiaries_by options es = filter_map (tertiary_at options) es

abbrev pub quaternary_ranks : Collation → List Counted → List ℕ
quaternary_ranks collation es = map quaternary_rank (filter_map (quaternary_at collation) es)

-- the tertiary of an element with its case above it, as it counts where case comes first
abbrev pub tertiary_with_case : CollationCaseFirst → Element → ℕ
tertiary_with_case case_first e =
    let exchanged = cond (e.secondary == 0) (e.case * 2 ^ 14 + e.tertiary + 0x4000) ((3 - e.case) * 2 ^ 14 + e.tertiary)
    in cond (is_upper_first case_first) exchanged (e.case * 2 ^ 14 + e.tertiary)

-- ## Bounds

-- whether the case of an element that counts is one: 3 fits its bits too, but no accepted table says it
abbrev pub has_sound_case : Counted → Bool
has_sound_case (whole e) = leb e.case 2
has_sound_case (variable primary) = true

-- tertiary weights are below it
abbrev pub tertiary_bound : ResolvedCollatorOptions → ℕ
tertiary_bound options =
    cond (has_case_bits options) (cond (is_upper_first options.case_first) (2 ^ 16) 0xc000) 0x4000
