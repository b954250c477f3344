-- The secondary level of a key orders as the secondaries do, forward and backward.
use Rattle.std.proofs.Common.{◌≡◌, ℕ, ◌<◌, ◌≤◌, ◌/◌, true, List, ◌++◌, refl, ap, arith, inl}
use Rattle.std.proofs.lemmas.Bool.Decides.{nat_tests}
use Rattle.std.specs.Cmp.Lexicographic.{slice_cmp}
use Rattle.std.specs.Ordering.{nat_cmp, ordering_then}
use Rattle.icu_collator_core.specs.WeightRules.{is_sound_secondary}
use Rattle.icu_collator.specs.Levels.{SecondaryPlace, segment_end, secondary}
use Rattle.icu_collator.specs.Order.{list_order, secondary_rank}
use Rattle.icu_collator.specs.KeyBytes.{secondary_code, secondary_bytes, with_runs}
use Rattle.icu_collator.proofs.keys.CodesLemmas.{DiffersBelow, BeginsUpTo, BeginsAbove, AllFrom}
use Rattle.icu_collator.proofs.keys.RunCodeLemmas.{BeginsBelow, IsRunCode, runs_order}
use Rattle.icu_collator.proofs.keys.WeightBytesLemmas.{AreWeights, weights_differ, apart_low}

module _ (IsWeight : ℕ → Type 0) (are : AreWeights is_sound_secondary IsWeight) where
  abbrev pub IsSecondary : SecondaryPlace → Type 0
  IsSecondary segment_end = Unit {0}
  IsSecondary (secondary w) = IsWeight w

  abbrev pub IsSecondaryAt : Unit {0} → SecondaryPlace → Type 0
  IsSecondaryAt s place = IsSecondary place

  abbrev pub past : Unit {0} → SecondaryPlace → Unit {0}
  past s place = tt

  same : (v w : SecondaryPlace) → secondary_rank v ≡ secondary_rank w → v ≡ w
  same segment_end segment_end h = refl
  same segment_end (secondary w) h = let never : ⊥ = omega (arith, h) in absurd never
  same (secondary v) segment_end h = let never : ⊥ = omega (arith, h) in absurd never
  same (secondary v) (secondary w) h = ap secondary (omega (arith, h))

  lead_from : (w : ℕ) → IsWeight w → 3 ≤ w / 256
  lead_from w one = let sound : is_sound_secondary w ≡ true = are.sound w one in grind (arith, nat_tests)

  rises : (v w : SecondaryPlace) → IsSecondary v → IsSecondary w → secondary_rank v < secondary_rank w → DiffersBelow (secondary_bytes v) (secondary_bytes w)
  rises segment_end segment_end one other h = let never : ⊥ = omega (arith, h) in absurd never
  rises segment_end (secondary w) one other h = inl (lead_from w other)
  rises (secondary v) segment_end one other h = let never : ⊥ = omega (arith, h) in absurd never
  rises (secondary v) (secondary w) one other h =
      let first : 3 ≤ v / 256 = lead_from v one in
      weights_differ v w (omega (arith, h)) (apart_low v w (omega (arith, first)) (omega (arith, h)) (are.apart v w one other))

  after_end : (w : SecondaryPlace) → IsSecondary w → BeginsAbove 1 (secondary_bytes w)
  after_end segment_end one = omega arith
  after_end (secondary w) one = let first : 3 ≤ w / 256 = lead_from w one in omega (arith, first)

  below_runs : (w : SecondaryPlace) → IsSecondary w → secondary_rank w < 0x501 → BeginsBelow 0x05 (secondary_bytes w)
  below_runs segment_end one h = omega arith
  below_runs (secondary w) one h = omega (arith, h)

  above_runs : (w : SecondaryPlace) → IsSecondary w → 0x501 < secondary_rank w → BeginsAbove 0x45 (secondary_bytes w)
  above_runs segment_end one h = let never : ⊥ = omega (arith, h) in absurd never
  above_runs (secondary w) one h = let sound : is_sound_secondary w ≡ true = are.sound w one in grind (arith, nat_tests)

  secondaries_code : IsRunCode secondary_code IsSecondaryAt 1
  secondaries_code =
      record {
        some = omega arith;
        from_low = omega arith;
        from_high = omega arith;
        end_below = omega arith;
        same = λ s v w one other h. same v w h;
        lower_rises = λ s v w one other h low. rises v w one other h;
        higher_rises = λ s v w one other h high. rises v w one other h;
        after_end = λ s w one low. after_end w one;
        below_runs = λ s w one low. below_runs w one low;
        above_runs = λ s w one high. above_runs w one high;
      }

  -- The secondary levels of two keys order as the secondaries, and else as what stands after them.
  pub secondary_level_order :
      (vs ws : List SecondaryPlace) (xs ys : List ℕ) → AllFrom IsSecondaryAt past tt vs → AllFrom IsSecondaryAt past tt ws → BeginsUpTo 1 xs → BeginsUpTo 1 ys
      → slice_cmp nat_cmp (with_runs secondary_code vs ++ xs) (with_runs secondary_code ws ++ ys) ≡ ordering_then (list_order secondary_rank vs ws) (slice_cmp nat_cmp xs ys)
  secondary_level_order vs ws xs ys ones others low_xs low_ys = runs_order secondary_code IsSecondaryAt past 1 secondaries_code tt 0 vs ws xs ys ones others low_xs low_ys
