-- Characters at which the reading of a text may begin, whatever stands before them, and characters that have one element
-- wherever they stand.
use Rattle.std.specs.Prelude.{◌≡◌, ℕ, ◌*◌, ◌^◌, false, cond, get_or, ◌==◌, ◌&&◌, ◌⊎◌, ◌≢◌, List, [], ◌∷◌, None}
use Rattle.std.specs.List.{AllByRecursion}
use Rattle.std.specs.Ordering.{nat_cmp}
use Rattle.std.specs.declared.cmp.Ordering.{Ordering}
use Rattle.std.specs.declared.cmp.Ordering.TheVariants.{Equal}
use Rattle.icu_normalizer_core.specs.Canonical.{Canonical}
use Rattle.icu_collator_types.specs.declared.options.ResolvedCollatorOptions.{ResolvedCollatorOptions}
use Rattle.icu_collator_types.specs.Options.{group_index, is_numeric, is_shifted}
use Rattle.icu_collator_core.specs.Boundaries.{IsApart, IsBoundary, is_accent}
use Rattle.icu_collator_core.specs.Collation.{Collation}
use Rattle.icu_collator_core.specs.Defaults.{special_primary}
use Rattle.icu_collator_core.specs.PlainWords.{IsReadAlone, IsUnprefixed}
use Rattle.icu_collator_core.specs.Pools.{element_of}
use Rattle.icu_collator_core.specs.Weights.{Weights}
use Rattle.icu_collator.specs.Shifted.{is_variable}

-- a boundary that decomposing leaves as it is
pub record IsOwnBoundary (canonical : Canonical) (weights : Weights) (c : ℕ) : Type 0 where
  pub boundary : IsBoundary canonical weights c
  pub own : canonical.full c ≡ c ∷ []

-- with no character of its full list a prefix is recorded
abbrev pub GoesOn : Canonical → Weights → ℕ → Type 0
GoesOn canonical weights c = AllByRecursion (IsUnprefixed weights) (canonical.full c)

-- A character whose full list begins with a boundary that is neither special nor an accent before which a dot above is
-- dropped, and that has one element, these 64 bits, wherever it stands. An unmapped character is its own full list.
pub record IsPlain (collation : Collation) (c bits : ℕ) : Type 0 where
  pub first : ℕ
  pub others : List ℕ
  pub full : collation.canonical.full c ≡ first ∷ others
  pub boundary : IsBoundary collation.canonical collation.weights first
  pub accent : (collation.weights.dot_above && is_accent first) ≡ false
  pub ordinary : special_primary first ≡ None
  pub undotted : (first == 0x307) ≡ false
  pub alone : IsReadAlone collation.weights first bits

-- a plain character whose element has a primary weight
pub record HasPrimary (collation : Collation) (c : ℕ) : Type 0 where
  pub bits : ℕ
  pub plain : IsPlain collation c bits
  pub filled : ((element_of bits).primary == 0) ≡ false

-- an element with a primary weight that isn't variable, so that it counts whole
pub record CountsWhole (collation : Collation) (options : ResolvedCollatorOptions) (bits : ℕ) : Type 0 where
  pub fixed : is_variable collation options (element_of bits) ≡ false
  pub filled : ((element_of bits).primary == 0) ≡ false

-- A character from which on texts may be read, where two more such follow, and none between them with which a prefix is
-- recorded: its full list begins with a boundary that stands apart, and with none of it a prefix is recorded. Where elements
-- are shifted, it also has one element with a primary weight.
pub record IsPassage (collation : Collation) (options : ResolvedCollatorOptions) (c : ℕ) : Type 0 where
  pub first : ℕ
  pub others : List ℕ
  pub full : collation.canonical.full c ≡ first ∷ others
  pub boundary : IsBoundary collation.canonical collation.weights first
  pub goes_on : GoesOn collation.canonical collation.weights c
  pub apart : IsApart collation.weights (is_numeric options.numeric) first
  pub counts : (is_shifted options.alternate_handling ≡ false) ⊎ HasPrimary collation c

-- the primary weight of an element, as reordering has it
abbrev pub reordered_primary : Collation → ℕ → ℕ
reordered_primary collation bits = collation.reordered (element_of bits).primary

-- the primaries of variable elements end before this one: 0 where no element is variable
abbrev pub EndsVariable : Collation → ResolvedCollatorOptions → ℕ → Type 0
EndsVariable collation options end =
    end ≡ cond (is_shifted options.alternate_handling) (get_or collation.groups (group_index options.max_variable) 0 * 2 ^ 16) 0

-- two elements that count whole decide so, by their primaries
pub record Decide (collation : Collation) (options : ResolvedCollatorOptions) (bits other : ℕ) (answer : Ordering) : Type 0 where
  pub left_counts : CountsWhole collation options bits
  pub right_counts : CountsWhole collation options other
  pub answer_is : answer ≡ nat_cmp (reordered_primary collation bits) (reordered_primary collation other)
  pub decided : answer ≢ Equal
