-- The rules on the weights that lines give, V1 to V6: which lines break them. They ask every line, also a w line that a t line
-- replaces.
use Rattle.std.specs.Prelude.{◌≡◌, ℕ, ◌/◌, ◌^◌, Bool, true, false, cond, ◌==◌, ◌&&◌, ◌||◌, leb, List, [], ◌∷◌, flat_map}
use Rattle.std.specs.Option.{is_some}
use Rattle.std.specs.List.{list_all}
use Rattle.icu_collator_types.specs.declared.elements.Element.{Element}
use Rattle.icu_collator_core.specs.PlainLeads.{leads_alone}
use Rattle.icu_collator_core.specs.Weights.{Range, Weights}
use Rattle.icu_collator_core.specs.WeightRules.{are_apart_elements, are_disjoint, has_widths, is_of_other_lead, is_sound_primary, is_sound_range, is_sound_secondary, is_sound_tertiary}
use Rattle.collate_lines.specs.Record.{Record, weights, range, digit}
use Rattle.collate_rules.specs.Meaning.{first_found, is_compressible_in, numeric_in, set_to, span_of}

-- ## What lines give

-- the elements of a line
abbrev pub elements_of : Record → List Element
elements_of (weights layer prefix text es) = es
elements_of _ = []

-- the range of a line
abbrev pub ranges_of : Record → List Range
ranges_of (range r) = span_of r ∷ []
ranges_of _ = []

-- those of all lines
abbrev pub given_elements : List Record → List Element
given_elements lines = flat_map elements_of lines

abbrev pub given_ranges : List Record → List Range
given_ranges lines = flat_map ranges_of lines

-- ## Leads as some of the lines of a file tell them

-- the lead of numbers that the whole file sets, if these lines say it or it is the default; else none, which is 0
abbrev pub numeric_to : List Record → List Record → ℕ
numeric_to file lines =
    let lead = set_to numeric_in 0x10 file
    in cond ((lead == 0x10) || is_some (first_found numeric_in lines)) lead 0

-- what these lines tell of leads
abbrev pub leads_to : List Record → List Record → Weights
leads_to file lines = leads_alone (is_compressible_in lines) (numeric_to file lines)

-- ## One element, V1 to V4; a weight of 0 is none

abbrev pub has_sound_primary : Weights → Element → Bool
has_sound_primary leads e = (e.primary == 0) || is_sound_primary leads e.primary

abbrev pub has_sound_secondary : Element → Bool
has_sound_secondary e = (e.secondary == 0) || is_sound_secondary e.secondary

abbrev pub has_sound_tertiary : Element → Bool
has_sound_tertiary e = (e.tertiary == 0) || is_sound_tertiary e.tertiary

-- an element of a line doesn't pass
abbrev pub HasRefused : (Element → Bool) → Record → Type 0
HasRefused passes line = list_all passes (elements_of line) ≡ false

-- ## Several lines together

-- V2: a primary of these lines isn't sound, by what they tell of leads
abbrev pub BreakPrimaries : List Record → List Record → Type 0
BreakPrimaries file lines = list_all (has_sound_primary (leads_to file lines)) (given_elements lines) ≡ false

-- whether no weight's bytes begin another's on its level
abbrev pub are_all_apart : List Element → Bool
are_all_apart es = list_all (λ d. list_all (are_apart_elements d) es) es

-- V5: a weight of these lines begins another
abbrev pub BreakApart : List Record → Type 0
BreakApart lines = are_all_apart (given_elements lines) ≡ false

-- whether no two ranges share a character
abbrev pub are_all_disjoint : List Range → Bool
are_all_disjoint [] = true
are_all_disjoint (r ∷ rs) = list_all (are_disjoint r) rs && are_all_disjoint rs

-- whether a range has this lead
abbrev pub has_lead : ℕ → Range → Bool
has_lead lead r = lead == r.primary / 2 ^ 24

-- whether each range is sound, no two share a character, and no element has the lead of one
abbrev pub are_sound_ranges : Weights → List Range → List Element → Bool
are_sound_ranges leads ranges es =
    list_all (is_sound_range leads) ranges
    && are_all_disjoint ranges
    && list_all (λ r. list_all (is_of_other_lead r) es) ranges

-- V6: the ranges of these lines aren't so, by what they tell of leads
abbrev pub BreakRanges : List Record → List Record → Type 0
BreakRanges file lines = are_sound_ranges (leads_to file lines) (given_ranges lines) (given_elements lines) ≡ false

-- ## What the grammar gives

-- the numbers of a line's elements are of their widths, and a digit has at most the value 9
abbrev pub KeepsWidths : Record → Type 0
KeepsWidths (weights layer prefix text es) = list_all has_widths es ≡ true
KeepsWidths (digit c value) = leb value 9 ≡ true
KeepsWidths _ = Unit {0}
