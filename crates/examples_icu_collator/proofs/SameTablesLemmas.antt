-- The two tables say the same of each character.
use Rattle.std.proofs.Common.{◌≡◌, ◌≢◌, inl, inr, ℕ, ◌≤◌, ◌*◌, ◌-◌, Bool, true, false, cond, [], ◌∷◌, refl, ap, subst, arith, Option, Some, None}
use Rattle.std.proofs.lemmas.Bool.{cases_eq, eqb-true, ne_eqb}
use Rattle.std.proofs.lemmas.Bool.Decides.{nat_tests}
use Rattle.std.specs.Prelude.{◌==◌}
use Rattle.std.specs.Option.{unwrap_or}
use Rattle.icu_normalizer_core.specs.BuiltIn.{built_in_class, is_within}
use Rattle.icu_collator_core.specs.Defaults.{moved_primary, range_primary}
use Rattle.icu_normalizer_core.specs.Sameness.{AreSameCanonical}
use Rattle.icu_collator_core.specs.Sameness.{AreSameLeads, AreSameWeights}
use Rattle.icu_collator_core.specs.SameSettings.{AreSameSettings}
use Rattle.examples_icu_collator.specs.Tables.{class_of, recorded_of}
use Rattle.examples_icu_collator.specs.SameTables.{ranged_collation, other_collation}

-- the first of two that are found
abbrev first_or : {A : Type 0} → Option A → Option A → Option A
first_or o later = elim o [ Some y ↦ Some y | None ↦ later ]

-- what two lines for two characters give, in either order
either_first : (a b : Bool) (x y : ℕ) → (a ≡ true → b ≡ false)
    → first_or (cond a (Some x) None) (first_or (cond b (Some y) None) None) ≡ first_or (cond b (Some y) None) (first_or (cond a (Some x) None) None)
either_first true b x y h = rw (h refl) refl
either_first false true x y h = refl
either_first false false x y h = refl

class_alike : (c : ℕ) → other_collation.canonical.class c ≡ ranged_collation.canonical.class c
unfolding class_of
class_alike c =
    ap (λ (o : Option ℕ). elim (built_in_class c) as (λ _. ℕ) [ Some k ↦ k | None ↦ unwrap_or o 0 ])
    (either_first (0x323 == c) (0x302 == c) 220 230 (λ e. ne_eqb 0x302 c (λ is. omega (arith, is, eqb-true 0x323 c e))))

pub same_characters : AreSameCanonical other_collation.canonical ranged_collation.canonical
same_characters = record { class = λ c s. class_alike c; full = λ c s. refl }

-- the range from the second character on
moved_alike : (c : ℕ) → 0x4e01 ≤ c
    → moved_primary false 0xe0020300 ((c - 0x4e01) * 1) ≡ moved_primary false 0xe0020200 ((c - 0x4e00) * 1)
unfolding moved_primary
moved_alike c h = omega arith

first_recorded : ranged_collation.weights.recorded [] (0x4e00 ∷ []) ≡ None → ⊥
unfolding recorded_of
first_recorded h = cc

within_alike : (c : ℕ) → c ≢ 0x4e00 → is_within 0x4e01 0x9fff c ≡ is_within 0x4e00 0x9fff c
within_alike c ne = grind (arith, nat_tests)

second_on : (c : ℕ) → c ≢ 0x4e00 → is_within 0x4e00 0x9fff c ≡ true → 0x4e01 ≤ c
second_on c ne h = grind (arith, nat_tests)

found_alike : (a b : Bool) (p q : ℕ) → a ≡ b → (b ≡ true → p ≡ q)
    → first_or (cond a (Some p) None) None ≡ first_or (cond b (Some q) None) None
found_alike a true p q e h = rw (e, h refl) refl
found_alike a false p q e h = rw e refl

ranged_alike : (c : ℕ) → other_collation.weights.recorded [] (c ∷ []) ≡ None → other_collation.weights.ranged_primary c ≡ ranged_collation.weights.ranged_primary c
unfolding range_primary
ranged_alike c none =
    elim (cases_eq c 0x4e00) [
      | inl e ↦ absurd (first_recorded (subst (λ x. ranged_collation.weights.recorded [] (x ∷ []) ≡ None) e none))
      | inr ne ↦ found_alike (is_within 0x4e01 0x9fff c) (is_within 0x4e00 0x9fff c) _ _ (within_alike c ne) (λ is. moved_alike c (second_on c ne is))
    ]

pub same_weights : AreSameWeights other_collation.weights ranged_collation.weights
same_weights =
    record {
      recorded = λ prefix text p t. refl;
      digit = λ c s. refl;
      ranged_primary = λ c s none. ranged_alike c none;
      is_compressible = λ lead. refl;
      numeric_lead = refl;
      dot_above = refl;
    }

pub same_settings : AreSameSettings other_collation ranged_collation
same_settings = record { reordered = λ p. refl; backward = refl; groups = refl }

pub same_leads : AreSameLeads other_collation.weights ranged_collation.weights
same_leads lead = refl
