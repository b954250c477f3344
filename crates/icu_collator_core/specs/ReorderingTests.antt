-- Tests of a reordering by upper halves of primaries, which together decide whether it keeps the rules.
use Rattle.std.specs.Prelude.{◌≡◌, ℕ, ◌+◌, ◌*◌, ◌/◌, ◌^◌, ◌<◌, Bool, true, cond, ◌==◌, ◌&&◌, ◌||◌, List, Option, Some, None, slice_index_or}
use Rattle.icu_collator_core.specs.declared.tables.reordering.CollationReordering.{CollationReordering}
use Rattle.icu_collator_core.specs.declared.tables.special_primaries.CollationSpecialPrimaries.{CollationSpecialPrimaries}
use Rattle.icu_collator_core.specs.TableSettings.{is_compressible_in, reordered_by}
use Rattle.icu_collator_core.specs.WeightRules.{is_letter_lead}

-- the lead that a primary gets, by its upper half and the lower one
abbrev pub new_lead : CollationReordering → ℕ → ℕ → ℕ
new_lead reordering half rest = reordered_by reordering (half * 2 ^ 16 + rest) / 2 ^ 24

-- ## An upper half by itself

-- all primaries with it get one lead
abbrev pub has_one_lead : CollationReordering → ℕ → Bool
has_one_lead reordering half =
    (new_lead reordering half 2 == new_lead reordering half 0) && (new_lead reordering half 0xffff == new_lead reordering half 0)

-- they keep theirs where it is none of letters
abbrev pub keeps_other : CollationReordering → ℕ → Bool
keeps_other reordering half = is_letter_lead (half / 2 ^ 8) || (new_lead reordering half 0 == half / 2 ^ 8)

abbrev pub is_steady_half : CollationReordering → ℕ → Bool
is_steady_half reordering half = has_one_lead reordering half && keeps_other reordering half

abbrev pub AreSteadyHalves : CollationReordering → Type 0
AreSteadyHalves reordering = (half : ℕ) → half < 2 ^ 16 → is_steady_half reordering half ≡ true

-- ## Upper halves together

-- below a number, one key has one value
abbrev pub IsFunctional : (ℕ → ℕ) → (ℕ → ℕ) → ℕ → Type 0
IsFunctional key value count = (i j : ℕ) → i < count → j < count → key i ≡ key j → value i ≡ value j

-- of upper halves with one second byte, those with different leads get different leads
abbrev pub AreApartUnder : CollationReordering → ℕ → Type 0
AreApartUnder reordering second =
    IsFunctional (λ lead. new_lead reordering (lead * 2 ^ 8 + second) 0) (λ lead. lead) (2 ^ 8)

abbrev pub AreAllApart : CollationReordering → Type 0
AreAllApart reordering = (second : ℕ) → second < 2 ^ 8 → AreApartUnder reordering second

-- 1 for a compressible lead, 0 for any other
abbrev pub compressible_bit : CollationSpecialPrimaries → ℕ → ℕ
compressible_bit special_primaries lead = cond (is_compressible_in special_primaries.last_primaries lead) 1 0

-- upper halves that get one lead have leads that are alike compressible
abbrev pub AreAlikeCompressible : CollationSpecialPrimaries → CollationReordering → Type 0
AreAlikeCompressible special_primaries reordering =
    IsFunctional (λ half. new_lead reordering half 0) (λ half. compressible_bit special_primaries (half / 2 ^ 8)) (2 ^ 16)

-- ## Values that are noted

-- the values of the keys below a number are noted, and no others
pub record AreValuesNoted (key value : ℕ → ℕ) (count : ℕ) (noted : List (Option ℕ)) : Type 0 where
  pub each : (i : ℕ) → i < count → slice_index_or noted (key i) None ≡ Some (value i)
  pub only : (k v : ℕ) → slice_index_or noted k None ≡ Some v → (i : ℕ) × (i < count) × (key i ≡ k) × (value i ≡ v)
