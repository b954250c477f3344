-- The weights that texts have below the primary level: the common one and recorded ones, of which none begins another.
use Rattle.std.proofs.Common.{◌≡◌, ◌≢◌, ℕ, ◌<◌, ◌≤◌, ◌/◌, ◌^◌, Bool, true, false, refl, sym, subst, arith, inl, inr, ◌⊎◌}
use Rattle.std.proofs.lemmas.Bool.{cases_eq, and_parts, ltb-true, leb-true}
use Rattle.std.proofs.lemmas.Bool.Decides.{nat_tests}
use mathlib.Core.Bool.{true≢false}
use Rattle.std.specs.Prelude.{◌==◌, ◌||◌}
use Rattle.icu_collator_types.specs.declared.elements.Element.{Element}
use Rattle.icu_collator_core.specs.Weights.{Weights}
use Rattle.icu_collator_core.specs.WeightRules.{AreSoundWeights, IsRecorded, weight_bytes, is_proper_beginning, are_apart, is_sound_kind, is_sound_secondary, is_sound_tertiary}
use Rattle.icu_collator.proofs.keys.WeightBytesLemmas.{AreWeights}

-- another lead, so neither begins the other
lead_apart : (v w : ℕ) → v / 256 ≢ w / 256 → are_apart weight_bytes v w ≡ true
unfolding is_proper_beginning
lead_apart v w h =
    let there : (v / 256 == w / 256) ≡ false = grind (arith, nat_tests) in
    let back : (w / 256 == v / 256) ≡ false = grind (arith, nat_tests) in
    rw (there, back) (last (v == 0) (w == 0))
  where
    last : (a b : Bool) → (a || b || true) ≡ true
    last true b = refl
    last false true = refl
    last false false = refl

common_apart : are_apart weight_bytes 0x500 0x500 ≡ true
unfolding is_proper_beginning
common_apart = refl

without_first : (a b : Bool) → a ≡ false → (a || b) ≡ true → b ≡ true
without_first true b h k = absurd (true≢false h)
without_first false b h k = k

not_none : (n : ℕ) → n ≢ 0 → (n == 0) ≡ false
not_none n h = grind (arith, nat_tests)

module _ (weights : Weights) (sound : AreSoundWeights weights) where
  abbrev pub IsSecondaryWeight : ℕ → Type 0
  IsSecondaryWeight w = (w ≡ 0x500) ⊎ ((e : Element) × IsRecorded weights e × (e.secondary ≢ 0) × (w ≡ e.secondary))

  abbrev pub IsTertiaryWeight : ℕ → Type 0
  IsTertiaryWeight w = (w ≡ 0x500) ⊎ ((e : Element) × IsRecorded weights e × (e.tertiary ≢ 0) × (w ≡ e.tertiary))

  pub sound_kind : (e : Element) → IsRecorded weights e → is_sound_kind e ≡ true
  sound_kind e is = (and_parts _ _ (and_parts _ _ (and_parts _ _ (sound.elements e is)).0).0).0

  sound_second : (e : Element) → IsRecorded weights e → e.secondary ≢ 0 → is_sound_secondary e.secondary ≡ true
  sound_second e is some = without_first (e.secondary == 0) _ (not_none e.secondary some) (and_parts _ _ (and_parts _ _ (sound.elements e is)).0).1

  sound_third : (e : Element) → IsRecorded weights e → e.tertiary ≢ 0 → is_sound_tertiary e.tertiary ≡ true
  sound_third e is some = without_first (e.tertiary == 0) _ (not_none e.tertiary some) (and_parts _ _ (sound.elements e is)).1

  pub case_small : (e : Element) → IsRecorded weights e → e.case ≤ 2
  case_small e is = leb-true e.case 2 (and_parts _ _ (and_parts _ _ (sound.widths e is)).0).1

  pub quaternary_small : (e : Element) → IsRecorded weights e → e.quaternary ≤ 3
  quaternary_small e is = leb-true e.quaternary 3 (and_parts _ _ (sound.widths e is)).1

  tertiary_width : (e : Element) → IsRecorded weights e → e.tertiary < 2 ^ 16
  tertiary_width e is = ltb-true e.tertiary (2 ^ 16) (and_parts _ _ (and_parts _ _ (and_parts _ _ (sound.widths e is)).0).0).1

  secondary_width : (e : Element) → IsRecorded weights e → e.secondary < 2 ^ 16
  secondary_width e is = ltb-true e.secondary (2 ^ 16) (and_parts _ _ (and_parts _ _ (and_parts _ _ (and_parts _ _ (sound.widths e is)).0).0).0).1

  second_lead : (s : ℕ) → is_sound_secondary s ≡ true → s ≢ 0x500 → s / 256 ≢ 5
  second_lead s h other e = grind (arith, nat_tests)

  third_lead : (t : ℕ) → is_sound_tertiary t ≡ true → t ≢ 0x500 → t / 256 ≢ 5
  third_lead t h other e = grind (arith, nat_tests)

  -- the common weight and one that is it or has another lead
  common_either : (w : ℕ) → (w ≢ 0x500 → w / 256 ≢ 5) → (are_apart weight_bytes 0x500 w ≡ true) × (are_apart weight_bytes w 0x500 ≡ true)
  common_either w h =
      elim (cases_eq w 0x500) [
        | inl e ↦ (subst (λ x. are_apart weight_bytes 0x500 x ≡ true) (sym e) common_apart, subst (λ x. are_apart weight_bytes x 0x500 ≡ true) (sym e) common_apart)
        | inr ne ↦ (lead_apart 0x500 w (λ k. h ne (sym k)), lead_apart w 0x500 (λ k. h ne k))
      ]

  seconds_apart : (v w : ℕ) → IsSecondaryWeight v → IsSecondaryWeight w → are_apart weight_bytes v w ≡ true
  seconds_apart v w (inl a) (inl b) = rw (a, b) common_apart
  seconds_apart v w (inl a) (inr (e, is, some, b)) = rw (a, b) (common_either e.secondary (second_lead e.secondary (sound_second e is some))).0
  seconds_apart v w (inr (d, is, some, a)) (inl b) = rw (a, b) (common_either d.secondary (second_lead d.secondary (sound_second d is some))).1
  seconds_apart v w (inr (d, is, some, a)) (inr (e, also, any, b)) = rw (a, b) (and_parts _ _ (and_parts _ _ (sound.apart d e is also)).0).1

  thirds_apart : (v w : ℕ) → IsTertiaryWeight v → IsTertiaryWeight w → are_apart weight_bytes v w ≡ true
  thirds_apart v w (inl a) (inl b) = rw (a, b) common_apart
  thirds_apart v w (inl a) (inr (e, is, some, b)) = rw (a, b) (common_either e.tertiary (third_lead e.tertiary (sound_third e is some))).0
  thirds_apart v w (inr (d, is, some, a)) (inl b) = rw (a, b) (common_either d.tertiary (third_lead d.tertiary (sound_third d is some))).1
  thirds_apart v w (inr (d, is, some, a)) (inr (e, also, any, b)) = rw (a, b) (and_parts _ _ (sound.apart d e is also)).1

  second_sound : (w : ℕ) → IsSecondaryWeight w → is_sound_secondary w ≡ true
  second_sound w (inl a) = rw a refl
  second_sound w (inr (e, is, some, a)) = rw a (sound_second e is some)

  third_sound : (w : ℕ) → IsTertiaryWeight w → is_sound_tertiary w ≡ true
  third_sound w (inl a) = rw a refl
  third_sound w (inr (e, is, some, a)) = rw a (sound_third e is some)

  second_small : (w : ℕ) → IsSecondaryWeight w → w < 2 ^ 16
  second_small w (inl a) = omega arith
  second_small w (inr (e, is, some, a)) = rw a (secondary_width e is)

  third_small : (w : ℕ) → IsTertiaryWeight w → w < 2 ^ 16
  third_small w (inl a) = omega arith
  third_small w (inr (e, is, some, a)) = rw a (tertiary_width e is)

  pub secondaries_are : AreWeights is_sound_secondary IsSecondaryWeight
  secondaries_are = record { sound = second_sound; small = second_small; apart = seconds_apart }

  pub tertiaries_are : AreWeights is_sound_tertiary IsTertiaryWeight
  tertiaries_are = record { sound = third_sound; small = third_small; apart = thirds_apart }

  pub tertiary_below : (t : ℕ) → IsTertiaryWeight t → (0 < t) × (t < 2 ^ 14)
  tertiary_below t one = let is : is_sound_tertiary t ≡ true = third_sound t one in (grind (arith, nat_tests), grind (arith, nat_tests))
