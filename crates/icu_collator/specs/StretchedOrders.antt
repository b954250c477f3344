-- How texts that are read by stretches side by side compare, by their primaries.
use Rattle.std.specs.Prelude.{◌≡◌, ◌≤◌, ℕ, true, All, List, [], ◌∷◌, ◌++◌, length, map, take, Option}
use Rattle.std.specs.Char.{IsScalar}
use Rattle.icu_collator_types.specs.declared.options.ResolvedCollatorOptions.{ResolvedCollatorOptions}
use Rattle.icu_collator_core.specs.Acceptance.{CollationSource}
use Rattle.icu_collator_core.specs.Stretched.{IsStretched, settled_in}
use Rattle.icu_collator_core.specs.declared.flat.steps.FlatStep.{FlatStep}
use Rattle.icu_collator_core.specs.declared.flat.steps.FlatStep.TheVariants.{Primary, End, Other}
use Rattle.icu_collator_core.specs.declared.flat.stretched.StretchedElements.{StretchedElements}
use Rattle.icu_collator.specs.Collators.{source_collation}
use Rattle.icu_collator.specs.CommonBoundaries.{AreElementsBehind}
use Rattle.icu_collator.specs.FlatOrders.{counted_primaries, reordered_by}
use Rattle.icu_collator.specs.Order.{collation_order}
use Rattle.icu_collator.specs.declared.compare.flat.Meeting.{Meeting}
use Rattle.icu_collator.specs.declared.compare.flat.Meeting.TheVariants.{Alike, BothEnd, Parted, Stopped}

-- those of the first so many elements that stand
abbrev pub met_primaries : ℕ → StretchedElements → ℕ → List ℕ
met_primaries end s met = counted_primaries end (take met (settled_in s))

-- What comes next of a text, of whose elements so many were met: one with a primary that counts, after which then so many are; or
-- none, where it is read to its end.
abbrev pub IsSettledStep : {I : Type 0} → CollationSource → Option ℕ → (I → Option ℕ → I → Type 0) → ℕ → List ℕ → List ℕ → FlatStep → I → StretchedElements → ℕ → Type 0
IsSettledStep source numeric steps end text before (Primary p) chars s met =
    IsStretched source numeric steps text chars s × (met ≤ length (settled_in s)) × (met_primaries end s met ≡ before ++ p ∷ [])
IsSettledStep source numeric steps end text before End chars s met =
    IsStretched source numeric steps text chars s × (s.is_ended ≡ true) × (counted_primaries end (settled_in s) ≡ before)
IsSettledStep source numeric steps end text before Other chars s met = Unit {0}

-- the same for each text that was read so far
abbrev pub IsNextSettled : {I : Type 0} → CollationSource → Option ℕ → (I → Option ℕ → I → Type 0) → ℕ → I → StretchedElements → ℕ → FlatStep → I → StretchedElements → ℕ → Type 0
IsNextSettled source numeric steps end first old before step chars s met =
    (text : List ℕ) → All IsScalar text → IsStretched source numeric steps text first old → before ≤ length (settled_in old)
    → IsSettledStep source numeric steps end text (met_primaries end old before) step chars s met

-- two texts are read so far, so many of their elements were met, and these have the same primaries that count, as they are reordered
pub record AreMetAlike {I J : Type 0} (source : CollationSource) (numeric : Option ℕ) (end : ℕ) (left_steps : I → Option ℕ → I → Type 0) (right_steps : J → Option ℕ → J → Type 0) (a b : List ℕ) (left : I) (right : J) (lefts rights : StretchedElements) (left_met right_met : ℕ) : Type 0 where
  pub left_read : IsStretched source numeric left_steps a left lefts
  pub right_read : IsStretched source numeric right_steps b right rights
  pub left_within : left_met ≤ length (settled_in lefts)
  pub right_within : right_met ≤ length (settled_in rights)
  pub same : map (reordered_by source) (met_primaries end lefts left_met) ≡ map (reordered_by source) (met_primaries end rights right_met)

-- What two texts say that were read side by side, after a front that they have in common: their order, where their primaries part;
-- or, where both are read to their ends, all elements after the front are there.
abbrev pub IsRun : CollationSource → ResolvedCollatorOptions → List ℕ → List ℕ → List ℕ → StretchedElements → StretchedElements → Meeting → Type 0
IsRun source options front a b lefts rights (Parted order) = order ≡ collation_order (source_collation source) options (front ++ a) (front ++ b)
IsRun source options front a b lefts rights BothEnd =
    AreElementsBehind (source_collation source) options front (front ++ a) (settled_in lefts)
    × AreElementsBehind (source_collation source) options front (front ++ b) (settled_in rights)
IsRun source options front a b lefts rights Alike = Unit {0}
IsRun source options front a b lefts rights Stopped = Unit {0}
