-- The 64 bits that move the primary of a range to its characters.
use Rattle.std.proofs.Common.{◌≡◌, ℕ, ◌+◌, ◌-◌, ◌*◌, ◌/◌, ◌%◌, ◌^◌, ◌<◌, Bool, true, false, cond, ◌==◌, ap, ◌∙◌, arith}
use Rattle.std.proofs.lemmas.Bool.{eq-eqb}
use Rattle.icu_collator_core.specs.Defaults.{moved_primary, range_primary}
use Rattle.icu_collator_core.specs.Pools.{offset_primary}
use Rattle.icu_collator_core.specs.WeightFaults.{moved_by}
use Rattle.icu_collator_core.specs.Weights.{Range}
use Rattle.collate_compile.specs.LineSayings.{offset_bits}

module _ (p f s : ℕ) (b : Bool) (narrow : f < 2 ^ 24) (small : s < 2 ^ 7) where
  abbrev pub bits : ℕ
  bits = p * 2 ^ 32 + f * 2 ^ 8 + cond b (2 ^ 7) 0 + s

  pub primary_part : bits / 2 ^ 32 ≡ p
  primary_part = at b
    where
      at : (b : Bool) → (p * 2 ^ 32 + f * 2 ^ 8 + cond b (2 ^ 7) 0 + s) / 2 ^ 32 ≡ p
      at true = omega (arith, narrow, small)
      at false = omega (arith, narrow, small)

  pub first_part : bits / 2 ^ 8 % 2 ^ 24 ≡ f
  first_part = at b
    where
      at : (b : Bool) → (p * 2 ^ 32 + f * 2 ^ 8 + cond b (2 ^ 7) 0 + s) / 2 ^ 8 % 2 ^ 24 ≡ f
      at true = omega (arith, narrow, small)
      at false = omega (arith, narrow, small)

  pub compressible_part : (bits / 2 ^ 7 % 2 == 1) ≡ b
  compressible_part = at b
    where
      at : (b : Bool) → ((p * 2 ^ 32 + f * 2 ^ 8 + cond b (2 ^ 7) 0 + s) / 2 ^ 7 % 2 == 1) ≡ b
      at true = eq-eqb _ 1 (omega (arith, narrow, small))
      at false =
          let none : (p * 2 ^ 32 + f * 2 ^ 8 + 0 + s) / 2 ^ 7 % 2 ≡ 0 =
          omega (arith, narrow, small) in ap (λ (n : ℕ). n == 1) none

  pub step_part : bits % 2 ^ 7 ≡ s
  step_part = at b
    where
      at : (b : Bool) → (p * 2 ^ 32 + f * 2 ^ 8 + cond b (2 ^ 7) 0 + s) % 2 ^ 7 ≡ s
      at true = omega (arith, narrow, small)
      at false = omega (arith, narrow, small)

-- the bits of a range move its primary as the range does
module _ (k : ℕ → Bool) (r : Range) (narrow : r.first < 2 ^ 24) (small : r.step < 2 ^ 7) where
  abbrev of_range : ℕ
  of_range = offset_bits k r

  abbrev is_led : Bool
  is_led = k (r.primary / 2 ^ 24)

  pub range_moved_by : (c : ℕ) → moved_by of_range c ≡ (c - r.first) * r.step
  range_moved_by c =
      ap (λ (n : ℕ). (c - n) * (of_range % 2 ^ 7)) (first_part r.primary r.first r.step is_led narrow small)
      ∙ ap (λ (n : ℕ). (c - r.first) * n) (step_part r.primary r.first r.step is_led narrow small)

  pub offset_moved : (c : ℕ) → offset_primary of_range c ≡ range_primary k r c
  unfolding offset_primary range_primary
  offset_moved c =
      ap (λ (b : Bool). moved_primary b (of_range / 2 ^ 32) (moved_by of_range c))
      (compressible_part r.primary r.first r.step is_led narrow small)
      ∙ ap (λ (n : ℕ). moved_primary is_led n (moved_by of_range c))
      (primary_part r.primary r.first r.step is_led narrow small)
      ∙ ap (moved_primary is_led r.primary) (range_moved_by c)
