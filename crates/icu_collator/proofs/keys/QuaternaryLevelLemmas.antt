-- The quaternary level of a key orders as the quaternaries and the shifted primaries do.
use Rattle.std.proofs.Common.{◌≡◌, ℕ, ◌<◌, ◌≤◌, ◌/◌, ◌^◌, Bool, true, false, cond, ltb, List, [], ◌∷◌, ◌++◌, length, refl, ap, arith, inl, inr}
use Rattle.std.proofs.lemmas.Bool.Decides.{nat_tests}
use Rattle.std.specs.Prelude.{◌&&◌, not}
use Rattle.std.specs.Cmp.Lexicographic.{slice_cmp}
use Rattle.std.specs.Ordering.{nat_cmp, ordering_then}
use Rattle.icu_collator_types.specs.declared.options.ResolvedCollatorOptions.{ResolvedCollatorOptions}
use Rattle.icu_collator_types.specs.Options.{is_shifted}
use Rattle.icu_collator_core.specs.WeightRules.{primary_bytes}
use Rattle.icu_collator.specs.Levels.{QuaternaryPlace, shifted, quaternary}
use Rattle.icu_collator.specs.Order.{list_order, quaternary_rank}
use Rattle.icu_collator.specs.KeyBytes.{quaternary_code, quaternary_bytes, shifted_bytes, quaternary_level, with_runs, behind_run, run_bytes}
use Rattle.icu_collator.proofs.keys.CodesLemmas.{DiffersBelow, BeginsUpTo, BeginsAbove, AllFrom}
use Rattle.icu_collator.proofs.keys.CommonAloneLemmas.{are_common, NoneBelow, alone_order}
use Rattle.icu_collator.proofs.keys.PrimaryLevelLemmas.{ArePrimaries}
use Rattle.icu_collator.proofs.keys.RunCodeLemmas.{BeginsBelow, IsRunCode, runs_order}
use Rattle.icu_collator.proofs.keys.WeightBytesLemmas.{primaries_differ}

-- where a shifted primary is written as it is, and where after a byte
data Shown (p : ℕ) : List ℕ → Type 0 where
  bare : p / 2 ^ 24 < 0x1b → Shown p (primary_bytes p)
  guarded : 0x1b ≤ p / 2 ^ 24 → Shown p (0x1b ∷ primary_bytes p)

by_cases : {A : Type 0} (P : A → Type 0) (b : Bool) (x y : A) → (b ≡ true → P x) → (b ≡ false → P y) → P (cond b x y)
by_cases P true x y t f = t refl
by_cases P false x y t f = f refl

shown : (p : ℕ) → Shown p (shifted_bytes p)
shown p = by_cases (Shown p) (ltb (p / 2 ^ 24) 0x1b) _ _ (λ h. bare (grind (arith, nat_tests))) (λ h. guarded (grind (arith, nat_tests)))

module _ {S : Type 0} (IsPrimary : S → ℕ → Type 0) (nextp : S → ℕ → S) (IsOutside : S → Type 0) (starts_run : ℕ → Bool) (are : ArePrimaries IsPrimary starts_run) where
  -- a shifted primary, or outside of numbers a quaternary
  abbrev pub IsPlace : S → QuaternaryPlace → Type 0
  IsPlace s (shifted p) = IsPrimary s p
  IsPlace s (quaternary q) = IsOutside s × (q ≤ 3)

  abbrev pub next_place : S → QuaternaryPlace → S
  next_place s (shifted p) = nextp s p
  next_place s (quaternary q) = s

  same : (s : S) (v w : QuaternaryPlace) → IsPlace s v → IsPlace s w → quaternary_rank v ≡ quaternary_rank w → v ≡ w
  same s (shifted p) (shifted q) one other h = ap shifted h
  same s (shifted p) (quaternary q) one other h = let never : ⊥ = omega (arith, h, are.small s p one) in absurd never
  same s (quaternary p) (shifted q) one other h = let never : ⊥ = omega (arith, h, are.small s q other) in absurd never
  same s (quaternary p) (quaternary q) one other h = ap quaternary (omega (arith, h))

  shown_below : (s : S) (p q : ℕ) {xs ys : List ℕ} → IsPrimary s p → IsPrimary s q → p < q → Shown p xs → Shown q ys → DiffersBelow xs ys
  shown_below s p q one other h (bare a) (bare b) = primaries_differ p q h (are.apart s p q one other)
  shown_below s p q one other h (bare a) (guarded b) = inl a
  shown_below s p q one other h (guarded a) (bare b) = let never : ⊥ = omega (arith, h, a, b) in absurd never
  shown_below s p q one other h (guarded a) (guarded b) = inr (refl, primaries_differ p q h (are.apart s p q one other))

  shown_begins : (s : S) (p : ℕ) {xs : List ℕ} → IsPrimary s p → Shown p xs → BeginsAbove 1 xs
  shown_begins s p one (bare a) = are.lead s p one
  shown_begins s p one (guarded a) = omega arith

  shown_low : (p : ℕ) {xs : List ℕ} → Shown p xs → BeginsBelow 0x1c xs
  shown_low p (bare a) = omega (arith, a)
  shown_low p (guarded a) = omega arith

  lower_rises : (s : S) (v w : QuaternaryPlace) → IsPlace s v → IsPlace s w → quaternary_rank v < quaternary_rank w → quaternary_rank w < 2 ^ 32 → DiffersBelow (quaternary_bytes v) (quaternary_bytes w)
  lower_rises s (shifted p) (shifted q) one other h low = shown_below s p q one other h (shown p) (shown q)
  lower_rises s (shifted p) (quaternary q) one other h low = let never : ⊥ = omega (arith, low) in absurd never
  lower_rises s (quaternary p) w one other h low = let never : ⊥ = omega (arith, h, low) in absurd never

  higher_rises : (s : S) (v w : QuaternaryPlace) → IsPlace s v → IsPlace s w → quaternary_rank v < quaternary_rank w → 2 ^ 32 < quaternary_rank v → DiffersBelow (quaternary_bytes v) (quaternary_bytes w)
  higher_rises s (shifted p) w one other h high = let never : ⊥ = omega (arith, high, are.small s p one) in absurd never
  higher_rises s (quaternary p) (shifted q) one other h high = let never : ⊥ = omega (arith, h, high, are.small s q other) in absurd never
  higher_rises s (quaternary p) (quaternary q) one other h high = inl (omega (arith, h))

  after_end : (s : S) (w : QuaternaryPlace) → IsPlace s w → BeginsAbove 1 (quaternary_bytes w)
  after_end s (shifted p) one = shown_begins s p one (shown p)
  after_end s (quaternary q) one = omega arith

  below_runs : (w : QuaternaryPlace) → quaternary_rank w < 2 ^ 32 → BeginsBelow 0x1c (quaternary_bytes w)
  below_runs (shifted p) low = shown_low p (shown p)
  below_runs (quaternary q) low = let never : ⊥ = omega (arith, low) in absurd never

  above_runs : (s : S) (w : QuaternaryPlace) → IsPlace s w → 2 ^ 32 < quaternary_rank w → BeginsAbove 0xfc (quaternary_bytes w)
  above_runs s (shifted p) one high = let never : ⊥ = omega (arith, high, are.small s p one) in absurd never
  above_runs s (quaternary q) one high = omega (arith, high)

  places_code : IsRunCode quaternary_code IsPlace 1
  places_code =
      record {
        some = omega arith;
        from_low = omega arith;
        from_high = omega arith;
        end_below = omega arith;
        same = same;
        lower_rises = lower_rises;
        higher_rises = higher_rises;
        after_end = λ s w one low. after_end s w one;
        below_runs = λ s w one low. below_runs w low;
        above_runs = above_runs;
      }

  written_order :
      (s : S) (vs ws : List QuaternaryPlace) (xs ys : List ℕ) → AllFrom IsPlace next_place s vs → AllFrom IsPlace next_place s ws → BeginsUpTo 1 xs → BeginsUpTo 1 ys
      → slice_cmp nat_cmp (with_runs quaternary_code vs ++ xs) (with_runs quaternary_code ws ++ ys) ≡ ordering_then (list_order quaternary_rank vs ws) (slice_cmp nat_cmp xs ys)
  written_order s vs ws xs ys ones others low_xs low_ys = runs_order quaternary_code IsPlace next_place 1 places_code s 0 vs ws xs ys ones others low_xs low_ys

  not_written : with_runs quaternary_code [] ≡ []
  unfolding behind_run run_bytes
  not_written = refl

  level_by :
      (is_plain : Bool) (s : S) (vs ws : List QuaternaryPlace) (xs ys : List ℕ)
      → (is_plain ≡ true → (length vs ≡ length ws) × NoneBelow quaternary_rank (2 ^ 32) vs × NoneBelow quaternary_rank (2 ^ 32) ws)
      → AllFrom IsPlace next_place s vs → AllFrom IsPlace next_place s ws → BeginsUpTo 1 xs → BeginsUpTo 1 ys
      → slice_cmp nat_cmp (cond (is_plain && are_common quaternary_rank (2 ^ 32) vs) [] (with_runs quaternary_code vs) ++ xs)
      (cond (is_plain && are_common quaternary_rank (2 ^ 32) ws) [] (with_runs quaternary_code ws) ++ ys)
      ≡ ordering_then (list_order quaternary_rank vs ws) (slice_cmp nat_cmp xs ys)
  level_by false s vs ws xs ys plain ones others low_xs low_ys = written_order s vs ws xs ys ones others low_xs low_ys
  level_by true s vs ws xs ys plain ones others low_xs low_ys =
      let all = plain refl in
      alone_order quaternary_rank (2 ^ 32) (with_runs quaternary_code) vs ws xs ys _ _ refl refl (all.0) (all.1) (all.2) not_written
      (written_order s vs ws xs ys ones others low_xs low_ys)
      (written_order s [] ws xs ys tt others low_xs low_ys)
      (written_order s vs [] xs ys ones tt low_xs low_ys)

  -- The quaternary levels of two keys order as the places, and else as what stands after them. Where nothing can be
  -- shifted they are as long, and no place is below the common one.
  pub quaternary_level_order :
      (options : ResolvedCollatorOptions) (s : S) (vs ws : List QuaternaryPlace) (xs ys : List ℕ)
      → (not (is_shifted options.alternate_handling) ≡ true → (length vs ≡ length ws) × NoneBelow quaternary_rank (2 ^ 32) vs × NoneBelow quaternary_rank (2 ^ 32) ws)
      → AllFrom IsPlace next_place s vs → AllFrom IsPlace next_place s ws → BeginsUpTo 1 xs → BeginsUpTo 1 ys
      → slice_cmp nat_cmp (quaternary_level options vs ++ xs) (quaternary_level options ws ++ ys) ≡ ordering_then (list_order quaternary_rank vs ws) (slice_cmp nat_cmp xs ys)
  quaternary_level_order options s vs ws xs ys plain ones others low_xs low_ys = level_by (not (is_shifted options.alternate_handling)) s vs ws xs ys plain ones others low_xs low_ys
