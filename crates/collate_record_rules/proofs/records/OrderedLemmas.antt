-- Short lists, and lists whose neighbours are compared one after another.
use Rattle.std.proofs.Common.{◌≡◌, ℕ, ◌<◌, ◌≤◌, true, false, List, [], ◌∷◌, length, get_or, refl, sym, ap, arith}
use Rattle.icu_collator_core.specs.SettingRules.{never_falls}
use Rattle.collate_rules.specs.RecordRules.{is_disordered}

-- a list of one
pub only_one : (xs : List ℕ) (x : ℕ) → 1 ≤ length xs → length xs < 2 → x ≡ get_or xs 0 x → xs ≡ x ∷ []
only_one [] x some few is = absurd (omega (arith, some))
only_one (y ∷ []) x some few is = ap (λ (z : ℕ). z ∷ []) (sym is)
only_one (y ∷ z ∷ zs) x some few is = absurd (omega (arith, few))

pub never_falls_short : (xs : List ℕ) → length xs ≤ 1 → true ≡ never_falls xs
never_falls_short [] h = refl
never_falls_short (x ∷ []) h = refl
never_falls_short (x ∷ y ∷ ys) h = absurd (omega (arith, h))

pub disordered_short : (class_of : ℕ → ℕ) (xs : List ℕ) → length xs ≤ 1 → false ≡ is_disordered class_of xs
disordered_short class_of [] h = refl
disordered_short class_of (x ∷ []) h = refl
disordered_short class_of (x ∷ y ∷ ys) h = absurd (omega (arith, h))
