-- Indices from which two texts may be read, where nothing is shifted and no number is sought.
use Rattle.std.specs.Prelude.{◌≡◌, ℕ, ◌≤◌, ◌⊎◌, false, All, List, ◌∷◌, drop, take, length, Option}
use Rattle.std.specs.Char.{IsScalar}
use Rattle.icu_collator_types.specs.declared.options.ResolvedCollatorOptions.{ResolvedCollatorOptions}
use Rattle.icu_collator_types.specs.Options.{is_numeric, is_shifted}
use Rattle.icu_collator_core.specs.Collation.{Collation}
use Rattle.icu_collator_core.specs.UnsafeCharacters.{IsSafe}
use Rattle.icu_collator.specs.Boundaries.{IsPassage}
use Rattle.icu_collator.specs.Fronts.{PartAt}
use Rattle.icu_collator.specs.Order.{collation_order}

-- with these data and options a front may be left out: secondaries aren't read backward, no dot above is dropped, nothing is
-- shifted, and no number is sought
pub record MaySkip (collation : Collation) (options : ResolvedCollatorOptions) : Type 0 where
  pub forward : collation.backward ≡ false
  pub undotted : collation.weights.dot_above ≡ false
  pub unshifted : is_shifted options.alternate_handling ≡ false
  pub unnumbered : is_numeric options.numeric ≡ false

-- a character at which reading may begin, and that passes with all options that shift nothing and seek no numbers
pub record IsOpenPassage (collation : Collation) (c : ℕ) : Type 0 where
  pub safe : IsSafe collation.canonical collation.weights c
  pub passes : (options : ResolvedCollatorOptions) → is_shifted options.alternate_handling ≡ false → is_numeric options.numeric ≡ false
      → IsPassage collation options c

-- at an index of a text stands a character at which reading may begin
pub record StandsSafely (collation : Collation) (text : List ℕ) (index : ℕ) : Type 0 where
  pub first : ℕ
  pub rest : List ℕ
  pub rest_is : drop index text ≡ first ∷ rest
  pub safe : IsSafe collation.canonical collation.weights first

-- An index within the first so many characters of a text: its beginning, or one at which reading may begin, where a front may be
-- left out. Texts that have these in common compare as what stands from the index on.
pub record IsReadingStart (collation : Collation) (options : ResolvedCollatorOptions) (text : List ℕ) (common index : ℕ) : Type 0 where
  pub within : index ≤ common
  pub may_skip : (index ≡ 0) ⊎ MaySkip collation options
  pub safe : (index ≡ 0) ⊎ StandsSafely collation text index
  pub same : (other : List ℕ) (left right : Option ℕ) → All IsScalar text → All IsScalar other → PartAt text other common left right
      → collation_order collation options text other ≡ collation_order collation options (drop index text) (drop index other)

-- An index of two texts, in characters: what stands before it is the same in both, and what stands from it on compares as the
-- texts do. It is the beginning, or an index at which reading may begin, where a front may be left out.
pub record IsCommonStart (collation : Collation) (options : ResolvedCollatorOptions) (a b : List ℕ) (index : ℕ) : Type 0 where
  pub left_reaches : index ≤ length a
  pub right_reaches : index ≤ length b
  pub common : take index a ≡ take index b
  pub may_skip : (index ≡ 0) ⊎ MaySkip collation options
  pub safe : (index ≡ 0) ⊎ StandsSafely collation a index
  pub same : collation_order collation options a b ≡ collation_order collation options (drop index a) (drop index b)
