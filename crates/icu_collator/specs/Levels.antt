-- The levels of a text: lists of weights that are compared in turn (UTS 10; reordering, case level, case first and
-- U+FFFE follow ICU4X).
use Rattle.std.specs.Prelude.{ℕ, ◌+◌, ◌-◌, ◌*◌, ◌^◌, Bool, false, cond, not, ◌==◌, ◌&&◌, ◌||◌, List, [], ◌∷◌, ◌++◌, filter_map, Option, Some, None}
use Rattle.icu_normalizer_core.specs.Canonical.{decomposed}
use Rattle.icu_collator_types.specs.declared.elements.Element.{Element}
use Rattle.icu_collator_types.specs.declared.options.Strength.TheVariants.{Secondary}
use Rattle.icu_collator_types.specs.declared.options.ResolvedCollatorOptions.{ResolvedCollatorOptions}
use Rattle.icu_collator_types.specs.Options.{has_case_bits, is_at_least, is_numeric, is_upper_first}
use Rattle.icu_collator_core.specs.Elements.{elements_of_list}
use Rattle.icu_collator_core.specs.Collation.{Collation}
use Rattle.icu_collator.specs.Shifted.{Counted, whole, variable, counted}

-- a place at the secondary level: a weight, or under backward the end of a segment at U+FFFE, which is below all weights
pub data SecondaryPlace : Type 0 where
  segment_end : SecondaryPlace
  secondary : ℕ → SecondaryPlace

-- a place at the quaternary level: the primary of a variable element, or the quaternary of any other, which is above
pub data QuaternaryPlace : Type 0 where
  shifted : ℕ → QuaternaryPlace
  quaternary : ℕ → QuaternaryPlace

pub record Levels : Type 0 where
  pub primaries : List ℕ
  pub secondaries : List SecondaryPlace
  pub cases : List ℕ
  pub tertiaries : List ℕ
  pub quaternaries : List QuaternaryPlace
  pub characters : List ℕ

-- a weight that counts unless it is 0
abbrev pub unless_zero : {A : Type 0} → ℕ → A → Option A
unless_zero w x = cond (w == 0) None (Some x)

-- the primary before it is reordered, and after
abbrev pub own_primary_at : Counted → Option ℕ
own_primary_at (whole e) = unless_zero e.primary e.primary
own_primary_at (variable p) = None

abbrev pub primary_at : Collation → Counted → Option ℕ
primary_at collation (whole e) = unless_zero e.primary (collation.reordered e.primary)
primary_at collation (variable p) = None

abbrev pub secondary_at : Counted → Option SecondaryPlace
secondary_at (whole e) = unless_zero e.secondary (secondary e.secondary)
secondary_at (variable p) = None

-- whether this is the element of U+FFFE
abbrev pub is_segment_end : Counted → Bool
is_segment_end (whole e) = e.primary == 0x02000000
is_segment_end (variable p) = false

-- the secondaries, reversed in each segment between U+FFFE; these stand before in the segment, the last first
unfoldable pub backward_from : List SecondaryPlace → List Counted → List SecondaryPlace
backward_from before [] = before
backward_from before (e ∷ es) =
    let ended = before ++ segment_end ∷ backward_from [] es
    in let skipped = backward_from before es
    in let further : List SecondaryPlace = elim (secondary_at e) [ Some s ↦ backward_from (s ∷ before) es | None ↦ skipped ]
    in cond (is_segment_end e) ended further

abbrev pub secondaries_of : Collation → List Counted → List SecondaryPlace
secondaries_of collation es =
    let forward = filter_map secondary_at es
    in let backward = backward_from [] es
    in cond collation.backward backward forward

-- the case of an element with a secondary weight, and at Primary with a primary weight too; with upper first the greatest
-- comes first
abbrev pub case_at : ResolvedCollatorOptions → Counted → Option ℕ
case_at options (whole e) =
    let counts = not (e.secondary == 0) && (is_at_least options.strength Secondary || not (e.primary == 0))
    in cond counts (Some (cond (is_upper_first options.case_first) (2 - e.case) e.case)) None
case_at options (variable p) = None

-- A tertiary weight; with case first, and no case level, the case bits stand above it. With upper first the bits are
-- exchanged, but an element without a secondary is above all others.
abbrev pub tertiary_weight : ResolvedCollatorOptions → Element → ℕ
tertiary_weight options e =
    let exchanged = cond (e.secondary == 0) (e.case * 2 ^ 14 + e.tertiary + 0x4000) ((3 - e.case) * 2 ^ 14 + e.tertiary)
    in let with_case = cond (is_upper_first options.case_first) exchanged (e.case * 2 ^ 14 + e.tertiary)
    in cond (has_case_bits options) with_case e.tertiary

abbrev pub tertiary_at : ResolvedCollatorOptions → Counted → Option ℕ
tertiary_at options (whole e) = unless_zero e.tertiary (tertiary_weight options e)
tertiary_at options (variable p) = None

abbrev pub quaternary_at : Collation → Counted → Option QuaternaryPlace
quaternary_at collation (whole e) = unless_zero e.tertiary (quaternary e.quaternary)
quaternary_at collation (variable p) = Some (shifted (collation.reordered p))

-- the levels of elements, and of the decomposed list that they were read from
unfoldable pub levels_of : Collation → ResolvedCollatorOptions → List Element → List ℕ → Levels
levels_of collation options elements list =
    let es = counted collation options elements
    in record {
      primaries = filter_map (primary_at collation) es;
      secondaries = secondaries_of collation es;
      cases = filter_map (case_at options) es;
      tertiaries = filter_map (tertiary_at options) es;
      quaternaries = filter_map (quaternary_at collation) es;
      characters = list;
    }

-- the elements of a text
abbrev pub elements_of_text : Collation → ResolvedCollatorOptions → List ℕ → List Element
elements_of_text collation options text =
    elements_of_list collation.canonical collation.weights (is_numeric options.numeric) (decomposed collation.canonical text)

-- the levels of a text
abbrev pub levels_of_text : Collation → ResolvedCollatorOptions → List ℕ → Levels
levels_of_text collation options text =
    levels_of collation options (elements_of_text collation options text) (decomposed collation.canonical text)
