-- How texts that are read flat compare: by their primaries, then by the weights of their elements.
use Rattle.std.specs.Prelude.{◌≡◌, ◌≢◌, ℕ, ◌==◌, ◌&&◌, Bool, cond, ltb, not, false, true, List, filter_map, map, Option, Some, None, option_map}
use Rattle.std.specs.Ordering.{nat_cmp, ordering_then}
use Rattle.std.specs.declared.cmp.Ordering.{Ordering}
use Rattle.std.specs.declared.cmp.Ordering.TheVariants.{Less, Equal, Greater}
use Rattle.icu_collator_types.specs.declared.elements.Element.{Element}
use Rattle.icu_collator_types.specs.declared.options.ResolvedCollatorOptions.{ResolvedCollatorOptions}
use Rattle.icu_collator_types.specs.declared.options.Strength.TheVariants.{Tertiary, Quaternary}
use Rattle.icu_collator_types.specs.Options.{has_case_level, is_at_least}
use Rattle.icu_collator_core.specs.Acceptance.{CollationSource}
use Rattle.icu_collator_core.specs.Collation.{Collation}
use Rattle.icu_collator_core.specs.FlatSteps.{IsNextPrimary, IsReadUpTo, IsSettled}
use Rattle.icu_collator_core.specs.Pools.{element_of}
use Rattle.icu_collator_core.specs.declared.flat.steps.FlatStep.{FlatStep}
use Rattle.icu_collator_core.specs.declared.flat.steps.FlatStep.TheVariants.{Primary, End}
use Rattle.icu_collator.specs.Collators.{source_collation}
use Rattle.icu_collator.specs.LevelLists.{variable_end_of}
use Rattle.icu_collator.specs.Levels.{levels_of_text, secondary_at, tertiary_at}
use Rattle.icu_collator.specs.Order.{collation_order, secondary_rank}
use Rattle.icu_collator.specs.Shifted.{whole}
use Rattle.icu_collator.specs.TextsRead.{lists_order, numeric_by}
use Rattle.icu_collator.specs.declared.compare.flat.ByPrimaries.{ByPrimaries}
use Rattle.icu_collator.specs.declared.compare.flat.ByPrimaries.TheVariants.{Decided, Same, NotFlat}
use Rattle.icu_collator.specs.declared.compare.flat.Meeting.{Meeting}
use Rattle.icu_collator.specs.declared.compare.flat.Meeting.TheVariants.{Alike, BothEnd, Parted, Stopped}

-- a primary as these tables reorder it
abbrev pub reordered_by : CollationSource → ℕ → ℕ
reordered_by source p = (source_collation source).reordered p

-- what the next primaries of two texts say: a text that ends is below one that goes on
abbrev pub IsMeeting : CollationSource → FlatStep → FlatStep → Meeting → Type 0
IsMeeting source (Primary p) (Primary q) Alike = reordered_by source p ≡ reordered_by source q
IsMeeting source (Primary p) (Primary q) (Parted order) =
    (order ≡ nat_cmp (reordered_by source p) (reordered_by source q)) × (order ≢ Equal)
IsMeeting source (Primary p) End (Parted order) = order ≡ Greater
IsMeeting source End (Primary q) (Parted order) = order ≡ Less
IsMeeting source End End BothEnd = Unit {0}
IsMeeting source first second Stopped = Unit {0}
IsMeeting source first second meeting = ⊥

-- Where two texts part, their next primaries stand, whatever else the texts hold.
abbrev pub AreSettled : CollationSource → Option ℕ → List ℕ → List ℕ → List ℕ → List ℕ → FlatStep → FlatStep → Meeting → Type 0
AreSettled source numeric a b lefts rights first second (Parted order) =
    IsSettled source numeric a lefts first × IsSettled source numeric b rights second
AreSettled source numeric a b lefts rights first second meeting = Unit {0}

-- whether a primary counts, where variable ones end before this one: it is none of these, nor 0
abbrev pub does_count : ℕ → ℕ → Bool
does_count end p = not (p == 0) && not (ltb 0x02000000 p && ltb p end)

-- the primary of an element, before it is reordered, if it counts
abbrev pub primary_that_counts : ℕ → Element → Option ℕ
primary_that_counts end e = cond (does_count end e.primary) (Some e.primary) None

-- those of elements of 64 bits
abbrev pub counted_primary : ℕ → ℕ → Option ℕ
counted_primary end bits = primary_that_counts end (element_of bits)

abbrev pub counted_primaries : ℕ → List ℕ → List ℕ
counted_primaries end items = filter_map (counted_primary end) items

-- the same, as they are reordered
abbrev pub moved_primaries : CollationSource → ℕ → List ℕ → List ℕ
moved_primaries source end items = map (reordered_by source) (counted_primaries end items)

-- What comes next of a text of which these elements were read: a primary that counts, or none. Those between don't count.
abbrev pub IsNextCounted : {I : Type 0} → CollationSource → ℕ → Option ℕ → (I → Option ℕ → I → Type 0) → List ℕ → List ℕ → FlatStep → I → ℕ → Type 0
IsNextCounted source end numeric steps text old result chars class =
    (before : List ℕ) × (counted_primaries end before ≡ counted_primaries end old) × IsNextPrimary source numeric steps text before result chars class

-- Two texts were read up to primaries that are alike so far, where they count, each after a character of a class; these elements were
-- read.
pub record AreReadAlike {I J : Type 0} (source : CollationSource) (end : ℕ) (numeric : Option ℕ) (left_steps : I → Option ℕ → I → Type 0) (right_steps : J → Option ℕ → J → Type 0) (a b : List ℕ) (left : I) (right : J) (left_class right_class : ℕ) (lefts rights : List ℕ) : Type 0 where
  pub left_read : IsReadUpTo source numeric left_steps a left left_class lefts
  pub right_read : IsReadUpTo source numeric right_steps b right right_class rights
  pub same : moved_primaries source end lefts ≡ moved_primaries source end rights

-- the same, with some elements
abbrev pub AreAlikeSoFar : {I J : Type 0} → CollationSource → ℕ → Option ℕ → (I → Option ℕ → I → Type 0) → (J → Option ℕ → J → Type 0) → List ℕ → List ℕ → I → J → ℕ → ℕ → Type 0
AreAlikeSoFar source end numeric left_steps right_steps a b left right left_class right_class =
    (lefts : List ℕ) × (rights : List ℕ) × AreReadAlike source end numeric left_steps right_steps a b left right left_class right_class lefts rights

-- two texts have the same primaries, as they are reordered
abbrev pub HaveSamePrimaries : Collation → ResolvedCollatorOptions → List ℕ → List ℕ → Type 0
HaveSamePrimaries collation options a b =
    (levels_of_text collation options a).primaries ≡ (levels_of_text collation options b).primaries

-- What the primaries of two texts say, where numbers have this lead byte, and variable elements end before this primary: the order
-- of the texts, or that those that count are the same.
abbrev pub IsByPrimaries : CollationSource → ℕ → Option ℕ → List ℕ → List ℕ → ByPrimaries → Type 0
IsByPrimaries source end numeric a b (Decided order) =
    (options : ResolvedCollatorOptions) → end ≡ variable_end_of (source_collation source) options → numeric ≡ numeric_by source options
    → order ≡ collation_order (source_collation source) options a b
IsByPrimaries source end numeric a b Same =
    (options : ResolvedCollatorOptions) → end ≡ variable_end_of (source_collation source) options → numeric ≡ numeric_by source options
    → HaveSamePrimaries (source_collation source) options a b
IsByPrimaries source end numeric a b NotFlat = Unit {0}

-- what the next primaries of two texts that were read so say, and what is left of both
abbrev pub IsMet : {I J : Type 0} → CollationSource → ℕ → Option ℕ → (I → Option ℕ → I → Type 0) → (J → Option ℕ → J → Type 0) → List ℕ → List ℕ → Meeting → I → J → ℕ → ℕ → Type 0
IsMet source end numeric left_steps right_steps a b Alike left right left_class right_class =
    AreAlikeSoFar source end numeric left_steps right_steps a b left right left_class right_class
IsMet source end numeric left_steps right_steps a b BothEnd left right left_class right_class = IsByPrimaries source end numeric a b Same
IsMet source end numeric left_steps right_steps a b (Parted order) left right left_class right_class = IsByPrimaries source end numeric a b (Decided order)
IsMet source end numeric left_steps right_steps a b Stopped left right left_class right_class = Unit {0}

-- ## Elements that count whole, by their secondaries and tertiaries

-- the rank of the secondary of an element of 64 bits, and its weight at the tertiary level
abbrev pub secondary_in : ℕ → Option ℕ
secondary_in bits = option_map secondary_rank (secondary_at (whole (element_of bits)))

abbrev pub tertiary_in : ResolvedCollatorOptions → ℕ → Option ℕ
tertiary_in options bits = tertiary_at options (whole (element_of bits))

-- the order of two lists of elements: by their secondaries, then by one that is known of the tertiaries before, then by theirs
abbrev pub weights_order : ResolvedCollatorOptions → Ordering → List ℕ → List ℕ → Ordering
weights_order options known xs ys =
    ordering_then (lists_order (filter_map secondary_in xs) (filter_map secondary_in ys))
    (ordering_then known (lists_order (filter_map (tertiary_in options) xs) (filter_map (tertiary_in options) ys)))

-- two elements have secondaries and tertiaries, and these have these orders
pub record AreOrders (options : ResolvedCollatorOptions) (first second : ℕ) (secondaries tertiaries : Ordering) : Type 0 where
  pub secondary : ℕ
  pub other : ℕ
  pub tertiary : ℕ
  pub further : ℕ
  pub first_secondary : secondary_in first ≡ Some secondary
  pub second_secondary : secondary_in second ≡ Some other
  pub first_tertiary : tertiary_in options first ≡ Some tertiary
  pub second_tertiary : tertiary_in options second ≡ Some further
  pub by_secondaries : secondaries ≡ nat_cmp secondary other
  pub by_tertiaries : tertiaries ≡ nat_cmp tertiary further

-- secondaries and tertiaries alone count after the primaries, both in the order of the text
pub record HasTwoLevels (collation : Collation) (options : ResolvedCollatorOptions) : Type 0 where
  pub forward : collation.backward ≡ false
  pub uncased : has_case_level options.case_level ≡ false
  pub tertiary : is_at_least options.strength Tertiary ≡ true
  pub no_more : is_at_least options.strength Quaternary ≡ false
