-- The tertiary level of a key orders as the tertiaries do, without case bits and with them.
use Rattle.std.proofs.Common.{◌≡◌, ◌≢◌, ℕ, ◌<◌, ◌≤◌, ◌+◌, ◌*◌, ◌-◌, ◌/◌, ◌%◌, ◌^◌, Bool, true, false, cond, ltb, List, ◌++◌, refl, arith}
use Rattle.std.proofs.lemmas.Bool.Decides.{nat_tests}
use Rattle.std.specs.Cmp.Lexicographic.{slice_cmp}
use Rattle.std.specs.Ordering.{nat_cmp, ordering_then}
use Rattle.icu_collator_core.specs.WeightRules.{is_sound_tertiary, weight_bytes}
use Rattle.icu_collator.specs.Order.{list_order}
use Rattle.icu_collator.specs.KeyBytes.{tertiary_code, lower_first_code, upper_first_code, tertiary_code_of, with_runs}
use Rattle.icu_collator_types.specs.declared.options.ResolvedCollatorOptions.{ResolvedCollatorOptions}
use Rattle.icu_collator_types.specs.Options.{has_case_bits, is_upper_first}
use Rattle.icu_collator.proofs.keys.CodesLemmas.{DiffersBelow, BeginsUpTo, BeginsAbove, AllFrom}
use Rattle.icu_collator.proofs.keys.RunCodeLemmas.{BeginsBelow, IsRunCode, runs_order}
use Rattle.icu_collator.proofs.keys.WeightBytesLemmas.{AreWeights, weights_differ, apart_low}

module _ (IsWeight : ℕ → Type 0) (are : AreWeights is_sound_tertiary IsWeight) where
  -- a tertiary below its case bits, which are from these up to those
  abbrev pub IsCased : ℕ → ℕ → ℕ → Type 0
  IsCased low high w = IsWeight (w % 2 ^ 14) × (low ≤ w) × (w < high)

  abbrev pub IsCasedAt : ℕ → ℕ → Unit {0} → ℕ → Type 0
  IsCasedAt low high s w = IsCased low high w

  abbrev pub past : Unit {0} → ℕ → Unit {0}
  past s w = tt

  -- the leads of tertiaries
  leads : (t : ℕ) → IsWeight t → (2 ≤ t / 256) × (t / 256 ≤ 0x3f)
  leads t one = let sound : is_sound_tertiary t ≡ true = are.sound t one in (grind (arith, nat_tests), grind (arith, nat_tests))

  -- a tertiary that isn't the common one isn't of its lead
  apart_lead : (t : ℕ) → IsWeight t → t ≢ 0x500 → t / 256 ≢ 5
  apart_lead t one other e = let sound : is_sound_tertiary t ≡ true = are.sound t one in grind (arith, nat_tests)

  -- weights moved to other leads
  cased_differ :
      (v w p q : ℕ) → IsWeight (v % 2 ^ 14) → IsWeight (w % 2 ^ 14) → v < w → p < q → p % 256 ≡ v % 256 → (p / 256 ≡ q / 256 → v / 256 ≡ w / 256)
      → DiffersBelow (weight_bytes p) (weight_bytes q)
  cased_differ v w p q one other h k low leads_alike =
      weights_differ p q k
      (λ e none.
      let f : v / 256 ≡ w / 256 = leads_alike e in
      let first : 2 ≤ v % 2 ^ 14 / 256 = (leads (v % 2 ^ 14) one).0 in
      apart_low (v % 2 ^ 14) (w % 2 ^ 14) (omega (arith, first)) (omega (arith, h, f)) (are.apart _ _ one other) (omega (arith, f)) (omega (arith, none, low)))

  -- the bytes of a weight that moves by so much where it is above the common one
  moved_up : ℕ → ℕ → List ℕ
  moved_up by w = weight_bytes (cond (ltb 0x500 w) (w + by) w)

  stays_low : (by w : ℕ) → w < 0x500 → moved_up by w ≡ weight_bytes w
  unfolding moved_up
  stays_low by w h = let is : ltb 0x500 w ≡ false = grind (arith, nat_tests) in rw is refl

  moves_up : (by w : ℕ) → 0x500 < w → moved_up by w ≡ weight_bytes (w + by)
  unfolding moved_up
  moves_up by w h = let is : ltb 0x500 w ≡ true = grind (arith, nat_tests) in rw is refl

  low_rises : (by v w : ℕ) → IsWeight (v % 2 ^ 14) → IsWeight (w % 2 ^ 14) → v < w → w < 0x500 → DiffersBelow (moved_up by v) (moved_up by w)
  low_rises by v w one other h low = rw (stays_low by v (omega (arith, h, low)), stays_low by w low) (cased_differ v w v w one other h h refl (λ e. e))

  high_rises : (k v w : ℕ) → IsWeight (v % 2 ^ 14) → IsWeight (w % 2 ^ 14) → v < w → 0x500 < v → DiffersBelow (moved_up (k * 256) v) (moved_up (k * 256) w)
  high_rises k v w one other h high =
      rw (moves_up (k * 256) v high, moves_up (k * 256) w (omega (arith, h, high)))
      (cased_differ v w (v + k * 256) (w + k * 256) one other h (omega (arith, h)) (omega arith) (λ e. omega (arith, e)))

  low_end : (by w : ℕ) → IsWeight (w % 2 ^ 14) → w < 0x500 → BeginsAbove 1 (moved_up by w)
  low_end by w one low = let first : 2 ≤ w % 2 ^ 14 / 256 = (leads _ one).0 in rw (stays_low by w low) (omega (arith, first, low))

  low_below : (by w : ℕ) → w < 0x500 → BeginsBelow 0x05 (moved_up by w)
  low_below by w low = rw (stays_low by w low) (omega (arith, low))

  high_lead : (w : ℕ) → IsWeight (w % 2 ^ 14) → 0x500 < w → 6 ≤ w / 256
  high_lead w one high =
      let other : w / 256 ≢ 5 = λ e. apart_lead (w % 2 ^ 14) one (λ f. omega (arith, e, f, high)) (omega (arith, e)) in
      omega (arith, other, high)

  high_above : (k w : ℕ) → IsWeight (w % 2 ^ 14) → 0x500 < w → BeginsAbove (5 + k) (moved_up (k * 256) w)
  high_above k w one high = let first : 6 ≤ w / 256 = high_lead w one high in rw (moves_up (k * 256) w high) (omega (arith, first))

  plain_code : IsRunCode tertiary_code (IsCasedAt 0 (2 ^ 14)) 1
  unfolding moved_up
  plain_code =
      record {
        some = omega arith;
        from_low = omega arith;
        from_high = omega arith;
        end_below = omega arith;
        same = λ s v w one other h. h;
        lower_rises = λ s v w one other h low. low_rises 0xc000 v w one.0 other.0 h low;
        higher_rises = λ s v w one other h high. high_rises 0xc0 v w one.0 other.0 h high;
        after_end = λ s w one low. low_end 0xc000 w one.0 low;
        below_runs = λ s w one low. low_below 0xc000 w low;
        above_runs = λ s w one high. high_above 0xc0 w one.0 high;
      }

  lower_code : IsRunCode lower_first_code (IsCasedAt 0 (3 * 2 ^ 14)) 1
  unfolding moved_up
  lower_code =
      record {
        some = omega arith;
        from_low = omega arith;
        from_high = omega arith;
        end_below = omega arith;
        same = λ s v w one other h. h;
        lower_rises = λ s v w one other h low. low_rises 0x4000 v w one.0 other.0 h low;
        higher_rises = λ s v w one other h high. high_rises 0x40 v w one.0 other.0 h high;
        after_end = λ s w one low. low_end 0x4000 w one.0 low;
        below_runs = λ s w one low. low_below 0x4000 w low;
        above_runs = λ s w one high. high_above 0x40 w one.0 high;
      }

  -- the bytes of a weight with upper case first
  moved_down : ℕ → List ℕ
  moved_down w = weight_bytes (cond (ltb w 0xc500) (w - 0x4000) w)

  moves_down : (w : ℕ) → w < 0xc500 → moved_down w ≡ weight_bytes (w - 0x4000)
  unfolding moved_down
  moves_down w h = let is : ltb w 0xc500 ≡ true = grind (arith, nat_tests) in rw is refl

  stays_high : (w : ℕ) → 0xc500 < w → moved_down w ≡ weight_bytes w
  unfolding moved_down
  stays_high w h = let is : ltb w 0xc500 ≡ false = grind (arith, nat_tests) in rw is refl

  down_rises : (v w : ℕ) → IsCased (2 ^ 14) (2 ^ 16) v → IsCased (2 ^ 14) (2 ^ 16) w → v < w → w < 0xc500 → DiffersBelow (moved_down v) (moved_down w)
  down_rises v w one other h low =
      rw (moves_down v (omega (arith, h, low)), moves_down w low)
      (cased_differ v w (v - 0x4000) (w - 0x4000) one.0 other.0 h (omega (arith, h, one.1)) (omega (arith, one.1)) (λ e. omega (arith, e, one.1, h)))

  upper_rises : (v w : ℕ) → IsCased (2 ^ 14) (2 ^ 16) v → IsCased (2 ^ 14) (2 ^ 16) w → v < w → 0xc500 < v → DiffersBelow (moved_down v) (moved_down w)
  upper_rises v w one other h high =
      rw (stays_high v high, stays_high w (omega (arith, h, high))) (cased_differ v w v w one.0 other.0 h h refl (λ e. e))

  down_end : (w : ℕ) → IsCased (2 ^ 14) (2 ^ 16) w → w < 0xc500 → BeginsAbove 1 (moved_down w)
  down_end w one low = let first : 2 ≤ w % 2 ^ 14 / 256 = (leads _ one.0).0 in rw (moves_down w low) (omega (arith, first, low, one.1))

  down_below : (w : ℕ) → IsCased (2 ^ 14) (2 ^ 16) w → w < 0xc500 → BeginsBelow 0x85 (moved_down w)
  down_below w one low = rw (moves_down w low) (omega (arith, low))

  upper_above : (w : ℕ) → IsCased (2 ^ 14) (2 ^ 16) w → 0xc500 < w → BeginsAbove 0xc5 (moved_down w)
  upper_above w one high =
      let other : w % 2 ^ 14 / 256 ≢ 5 = apart_lead (w % 2 ^ 14) one.0 (λ f. omega (arith, f, high, one.2)) in
      rw (stays_high w high) (omega (arith, other, high, one.2))

  upper_code : IsRunCode upper_first_code (IsCasedAt (2 ^ 14) (2 ^ 16)) 1
  unfolding moved_down
  upper_code =
      record {
        some = omega arith;
        from_low = omega arith;
        from_high = omega arith;
        end_below = omega arith;
        same = λ s v w one other h. h;
        lower_rises = λ s v w one other h low. down_rises v w one other h low;
        higher_rises = λ s v w one other h high. upper_rises v w one other h high;
        after_end = λ s w one low. down_end w one low;
        below_runs = λ s w one low. down_below w one low;
        above_runs = λ s w one high. upper_above w one high;
      }

  -- where tertiaries with their case bits lie
  abbrev pub lowest : Bool → Bool → ℕ
  lowest has_bits is_upper = cond has_bits (cond is_upper (2 ^ 14) 0) 0

  abbrev pub past_highest : Bool → Bool → ℕ
  past_highest has_bits is_upper = cond has_bits (cond is_upper (2 ^ 16) (3 * 2 ^ 14)) (2 ^ 14)

  -- a tertiary under these options
  abbrev pub IsTertiaryAt : Bool → Bool → Unit {0} → ℕ → Type 0
  IsTertiaryAt has_bits is_upper = IsCasedAt (lowest has_bits is_upper) (past_highest has_bits is_upper)

  code_order :
      (has_bits is_upper : Bool) (vs ws xs ys : List ℕ) → AllFrom (IsTertiaryAt has_bits is_upper) past tt vs → AllFrom (IsTertiaryAt has_bits is_upper) past tt ws
      → BeginsUpTo 1 xs → BeginsUpTo 1 ys
      → slice_cmp nat_cmp (with_runs (cond has_bits (cond is_upper upper_first_code lower_first_code) tertiary_code) vs ++ xs) (with_runs (cond has_bits (cond is_upper upper_first_code lower_first_code) tertiary_code) ws ++ ys)
      ≡ ordering_then (list_order (λ w. w) vs ws) (slice_cmp nat_cmp xs ys)
  code_order true true vs ws xs ys ones others low_xs low_ys = runs_order upper_first_code (IsCasedAt (2 ^ 14) (2 ^ 16)) past 1 upper_code tt 0 vs ws xs ys ones others low_xs low_ys
  code_order true false vs ws xs ys ones others low_xs low_ys = runs_order lower_first_code (IsCasedAt 0 (3 * 2 ^ 14)) past 1 lower_code tt 0 vs ws xs ys ones others low_xs low_ys
  code_order false is_upper vs ws xs ys ones others low_xs low_ys = runs_order tertiary_code (IsCasedAt 0 (2 ^ 14)) past 1 plain_code tt 0 vs ws xs ys ones others low_xs low_ys

  -- The tertiary levels of two keys order as the tertiaries, and else as what stands after them.
  pub tertiary_level_order :
      (options : ResolvedCollatorOptions) (vs ws xs ys : List ℕ)
      → AllFrom (IsTertiaryAt (has_case_bits options) (is_upper_first options.case_first)) past tt vs
      → AllFrom (IsTertiaryAt (has_case_bits options) (is_upper_first options.case_first)) past tt ws
      → BeginsUpTo 1 xs → BeginsUpTo 1 ys
      → slice_cmp nat_cmp (with_runs (tertiary_code_of options) vs ++ xs) (with_runs (tertiary_code_of options) ws ++ ys) ≡ ordering_then (list_order (λ w. w) vs ws) (slice_cmp nat_cmp xs ys)
  tertiary_level_order options vs ws xs ys ones others low_xs low_ys = code_order (has_case_bits options) (is_upper_first options.case_first) vs ws xs ys ones others low_xs low_ys
